-- What other crates cite of this one's proofs.
pub use Rattle.kotlin_project.proofs.Found.{among_more, found_told, same_path_itself}
pub use Rattle.kotlin_project.proofs.Apart.{apart_told}
