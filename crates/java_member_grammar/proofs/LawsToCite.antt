-- What other crates cite of this one's proofs.
pub use Rattle.java_member_grammar.proofs.Enums.{constants_are_read, constants_are_spelled}
pub use Rattle.java_member_grammar.proofs.Files.{import_is_read, import_is_spelled, package_is_read, package_is_spelled}
pub use Rattle.java_member_grammar.proofs.Members.{block_is_read, block_is_spelled, class_precedes, interface_precedes, semicolon_is_read, semicolon_is_spelled}
pub use Rattle.java_member_grammar.proofs.Types.{type_is_read, type_is_spelled}
