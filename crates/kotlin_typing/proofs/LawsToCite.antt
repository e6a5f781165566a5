-- What other crates cite of this one's proofs.
pub use Rattle.kotlin_typing.proofs.Equations.{branch_at, catch_at, choice_at, form_at, line_at, on_Literal, on_Name, on_This, on_Paren, on_Call, on_SuperCall, on_Field, on_Method, on_Element, on_Postfix, on_Prefix, on_As, on_Is, on_Binary, on_IfValue, on_WhenValue, on_Lambda, on_Run, on_Class, on_Commented, on_Declared, on_Local, on_Expression, on_Assign, on_While, on_DoWhile, on_For, on_ForRange, on_If, on_IfElse, on_IfElseIf, on_When, on_Break, on_Continue, on_Return, on_Give, on_Throw, on_Try, on_TryFinally, on_Synchronized}
pub use Rattle.kotlin_typing.proofs.Whole.{clean_left, clean_right, type_at, whole, whole_type}
pub use Rattle.kotlin_typing.proofs.Premises.{and_first, called_told, each_told, find_tells, has_type, mismatch_told, one_type, placed, some_same, some_told, sure}
