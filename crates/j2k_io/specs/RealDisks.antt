-- What is seen of the runtime's files.
use Rattle.std.specs.Prelude.{ℕ}

-- how many faults of listing and reading, and of writing, there were
pub record DiskCounts : Type 0 where
  pub reads : ℕ
  pub writes : ℕ
