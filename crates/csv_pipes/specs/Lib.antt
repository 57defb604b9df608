pub mod CsvState
pub mod Dictionaries
pub mod Even
pub mod FieldState
pub mod Left
pub mod LookupState
pub mod Made
pub mod Refusals
