-- What other crates cite of this one's proofs.
pub use Rattle.meanings.proofs.Headline.{same_steps}
pub use Rattle.meanings.proofs.Entered.{entries_are_entered}
pub use Rattle.meanings.proofs.Spelling.{spells_one}
pub use Rattle.meanings.proofs.Words.{no_keyword_stands_bare}
pub use Rattle.meanings.proofs.Typed.{spelling_is_kept, types_are_kept}
pub use Rattle.meanings.proofs.Texts.{plus_is, minus_is, times_is, kotlin_package_is, kotlin_dot_is, kotlin_package_end_is, kotlin_empty_line_is, kotlin_class_is, kotlin_class_open_is, kotlin_main_is, kotlin_main_open_is, kotlin_val_is, kotlin_is_is, kotlin_val_end_is, kotlin_print_is, kotlin_print_end_is, kotlin_main_end_is, kotlin_class_end_is}
