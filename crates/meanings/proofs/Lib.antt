mod Worked
mod WorkedMachine
pub mod WorkedShared
mod WorkedForms
pub mod Layers
pub mod Starts
pub mod RunLaws
pub mod SameText
pub mod Headline
pub mod Entered
pub mod SameLaws
pub mod Construction
pub mod SamePrograms
pub mod Lists
pub mod KnownLaws
pub mod SafeLaws
pub mod WorldLaws
pub mod SafeSteps
pub mod SafeBodies
pub mod SafePlaces
pub mod SafePrograms
pub mod Schedules
pub mod KotlinSafe
pub mod Depth
pub mod FormDepth
pub mod SameValues
pub mod Answers
pub mod Whole
pub mod Typed
pub mod Words
pub mod Expressions
pub mod Spelling
pub mod Numbers
pub mod Texts
pub mod LawsToCite
pub mod Units
