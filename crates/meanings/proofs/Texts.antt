-- The constants of the code are the texts that the definitions say.
use Rattle.std.proofs.Common.{◌≡◌, refl}
use Rattle.std.specs.Prelude.{codes}
use Rattle.meanings.specs.declared.operators.TheConstants.{PLUS, MINUS, TIMES}
use Rattle.meanings.specs.declared.kotlin.TheConstants.{KOTLIN_PACKAGE, KOTLIN_DOT, KOTLIN_PACKAGE_END, KOTLIN_EMPTY_LINE, KOTLIN_CLASS, KOTLIN_CLASS_OPEN, KOTLIN_MAIN, KOTLIN_MAIN_OPEN, KOTLIN_VAL, KOTLIN_IS, KOTLIN_VAL_END, KOTLIN_PRINT, KOTLIN_PRINT_END, KOTLIN_MAIN_END, KOTLIN_CLASS_END}

pub plus_is : PLUS.now ≡ codes " + "
plus_is = refl

pub minus_is : MINUS.now ≡ codes " - "
minus_is = refl

pub times_is : TIMES.now ≡ codes " * "
times_is = refl

pub kotlin_package_is : KOTLIN_PACKAGE.now ≡ codes "package "
kotlin_package_is = refl

pub kotlin_dot_is : KOTLIN_DOT.now ≡ codes "."
kotlin_dot_is = refl

pub kotlin_package_end_is : KOTLIN_PACKAGE_END.now ≡ codes "\n"
kotlin_package_end_is = refl

pub kotlin_empty_line_is : KOTLIN_EMPTY_LINE.now ≡ codes "\n"
kotlin_empty_line_is = refl

pub kotlin_class_is : KOTLIN_CLASS.now ≡ codes "class "
kotlin_class_is = refl

pub kotlin_class_open_is : KOTLIN_CLASS_OPEN.now ≡ codes " {\n"
kotlin_class_open_is = refl

pub kotlin_main_is : KOTLIN_MAIN.now ≡ codes "    companion object {\n        @JvmStatic fun main("
kotlin_main_is = refl

pub kotlin_main_open_is : KOTLIN_MAIN_OPEN.now ≡ codes ": Array<String>) {\n"
kotlin_main_open_is = refl

pub kotlin_val_is : KOTLIN_VAL.now ≡ codes "            val "
kotlin_val_is = refl

pub kotlin_is_is : KOTLIN_IS.now ≡ codes ": Int = "
kotlin_is_is = refl

pub kotlin_val_end_is : KOTLIN_VAL_END.now ≡ codes "\n"
kotlin_val_end_is = refl

pub kotlin_print_is : KOTLIN_PRINT.now ≡ codes "            println("
kotlin_print_is = refl

pub kotlin_print_end_is : KOTLIN_PRINT_END.now ≡ codes ")\n"
kotlin_print_end_is = refl

pub kotlin_main_end_is : KOTLIN_MAIN_END.now ≡ codes "        }\n    }\n"
kotlin_main_end_is = refl

pub kotlin_class_end_is : KOTLIN_CLASS_END.now ≡ codes "}\n"
kotlin_class_end_is = refl
