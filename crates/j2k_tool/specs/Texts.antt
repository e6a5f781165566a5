-- The fixed texts that are printed, and the names of files.
use Rattle.std.specs.Prelude.{ℕ, List, [], ◌∷◌, ◌++◌, codes}
use Rattle.j2k_faults.specs.Faults.{line_end}

abbrev pub usage_text : List ℕ
usage_text = codes "usage: j2k convert SRC DST | check DIR | explain SRC | sample SEED COUNT" ++ line_end

abbrev pub read_fault_text : List ℕ
read_fault_text = codes "j2k: read fault" ++ line_end

abbrev pub write_fault_text : List ℕ
write_fault_text = codes "j2k: write fault" ++ line_end

abbrev pub no_memory_text : List ℕ
no_memory_text = codes "j2k: no memory" ++ line_end

-- `j2k: not empty: DST`
abbrev pub not_empty_text : List ℕ → List ℕ
not_empty_text dst = codes "j2k: not empty: " ++ dst ++ line_end

-- the name of the report
abbrev pub report_name : List ℕ
report_name = codes "j2k-report.txt"

-- the end of a Kotlin file's name
abbrev pub kotlin_end : List ℕ
kotlin_end = codes ".kt"
