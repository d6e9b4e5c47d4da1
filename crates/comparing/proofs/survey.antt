-- The laws of surveying the columns.
pub mod Exploring
pub mod AllStates
pub mod NoValues
pub mod Admitting
pub mod AddingPrints
pub mod Gathering
pub mod EdgeSteps
pub mod Addresses
pub mod AddressesUpto
pub mod Texts
pub mod LaidCodes
pub mod StatesKept
pub mod TextsGathered
pub mod ColumnSurveyed
pub mod Room
pub mod ColumnsSurveyed
