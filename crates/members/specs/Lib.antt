-- Which members the objects of a policy have: their names, and all that is wrong with them, 21 and 22, said of the tree.
-- The promises rest on these definitions, and none of these on machinery.
pub mod Members
pub mod Names
pub mod Answers
pub mod Faults
pub mod Machinery
