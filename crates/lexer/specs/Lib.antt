pub mod Cutting
pub mod Grammar
pub mod Phases
pub mod Punctuators
pub mod Scanning
pub mod Worked
