-- The laws of showing a gap.
pub mod ShownRequest
pub mod ShortValues
pub mod AlongPath
pub mod FirstFound
pub mod LaidValues
