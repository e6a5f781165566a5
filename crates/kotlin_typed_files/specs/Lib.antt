pub mod TypedFiles
