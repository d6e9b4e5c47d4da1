-- What a stored table is: records, the state machine, reading and writing, tables as data.
-- The promises rest on these definitions, and none of these on machinery.
pub mod Choice
pub mod Items
pub mod Operators
pub mod Records
pub mod Values
pub mod Networks
pub mod Machine
pub mod Reading
pub mod Writing
pub mod Entries
pub mod EntriesLeft
pub mod Tables
pub mod Form
pub mod Machinery
