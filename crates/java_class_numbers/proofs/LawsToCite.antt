-- What other crates cite of this one's proofs.
pub use Rattle.java_class_numbers.proofs.Numbers.{headings_long, one_class, places_long, rows_long, same_class, table_long}
pub use Rattle.java_class_numbers.proofs.Standing.{all_declared, declarations_stand}
pub use Rattle.java_class_numbers.proofs.Tables.{headings_are, places_are, rows_are, table_is}
