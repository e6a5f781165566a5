-- The classes of the library by their names.
use Rattle.std.proofs.Common.{◌≡◌, ℕ, refl}
use Rattle.java_member_tables.specs.Library.{classes_named, library_classes, library_names}

pub all_named : (count : ℕ) → classes_named count library_names ≡ library_classes count
all_named count = refl
