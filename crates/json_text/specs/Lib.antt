-- What a JSON text is, and what it says: classes of bytes, the grammar, the tree of a text's values, what the reader's answer says.
-- The promises rest on these definitions, and none of these on machinery.
pub mod Choice
pub mod Bytes
pub mod Texts
pub mod Grammar
pub mod Trees
pub mod Answers
pub mod Machinery
