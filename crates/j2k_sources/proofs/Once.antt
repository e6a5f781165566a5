-- What is loaded of a folder is one thing.
use Rattle.std.proofs.Common.{◌≡◌, inl, inr, ℕ, Bool, true, false, List, sym, ◌∙◌, ap}
use Rattle.j2k_base.specs.declared.series.SourceFile.{SourceFile}
use Rattle.j2k_io.specs.Disks.{Files}
use Rattle.j2k_settings.proofs.LawsToCite.{sets_once}
use Rattle.j2k_sources.specs.declared.limits.Excess.{Excess}
use Rattle.j2k_sources.specs.declared.loading.Sources.{Sources}
use Rattle.j2k_sources.specs.declared.loading.Loaded.{Loaded}
use Rattle.j2k_sources.specs.declared.loading.Loaded.TheVariants.{Whole, TooLarge, Refused}
use Rattle.j2k_settings.specs.Settings.{settings_file}
use Rattle.j2k_sources.specs.Sources.{bytes_at, has_settings, SetsWhere, HasEntries, Exceeds, HasBadSettings, HasSources, IsLoaded}

where_once : (b : Bool) (bytes : List ℕ) (entries others : List (List ℕ)) → SetsWhere b bytes entries → SetsWhere b bytes others → entries ≡ others
where_once true bytes entries others p q = sets_once bytes entries others p q
where_once false bytes entries others p q = p ∙ sym q

entries_once : (src : List ℕ) (files : Files) (entries others : List (List ℕ)) → HasEntries src files entries → HasEntries src files others → entries ≡ others
entries_once src files entries others = where_once (has_settings src files) (bytes_at src files settings_file) entries others

excess_once : (src : List ℕ) (files : Files) (a b : Excess) → Exceeds src files a → Exceeds src files b → a ≡ b
excess_once src files a b (inl p) (inl q) = let e = sym p ∙ q in cc
excess_once src files a b (inl p) (inr q) = let e = sym p ∙ q.0 in cc
excess_once src files a b (inr p) (inl q) = let e = sym p.0 ∙ q in cc
excess_once src files a b (inr p) (inr q) = let e = sym p.2 ∙ q.2 in cc

not_both : (src : List ℕ) (files : Files) (a : Excess) (sources : Sources) → Exceeds src files a → HasSources src files sources.entries sources.files → ⊥
not_both src files a sources (inl p) q = let e = sym p ∙ q.early in cc
not_both src files a sources (inr p) q = let e = sym p.2 ∙ q.late in cc

not_bad : (src : List ℕ) (files : Files) (a : Excess) → Exceeds src files a → HasBadSettings src files → ⊥
not_bad src files a (inl p) q = let e = sym p ∙ q.0 in cc
not_bad src files a (inr p) q = q.1 p.1.0 p.1.1

pub loaded_once : (src : List ℕ) (files : Files) (a b : Loaded) → IsLoaded src files a → IsLoaded src files b → a ≡ b
loaded_once src files (Whole s) (Whole t) p q =
    ap (λ (entries : List (List ℕ)). Whole (record { entries = entries; files = s.files })) (entries_once src files s.entries t.entries p.settings q.settings)
    ∙ ap (λ (list : List SourceFile). Whole (record { entries = t.entries; files = list })) (p.java ∙ sym q.java)
loaded_once src files (Whole s) (TooLarge e) p q = absurd (not_both src files e s q p)
loaded_once src files (Whole s) (Refused fault) p q = absurd (q.1.1 s.entries p.settings)
loaded_once src files (TooLarge e) (Whole s) p q = absurd (not_both src files e s p q)
loaded_once src files (TooLarge e) (TooLarge f) p q = ap TooLarge (excess_once src files e f p q)
loaded_once src files (TooLarge e) (Refused fault) p q = absurd (not_bad src files e p q.1)
loaded_once src files (Refused fault) (Whole s) p q = absurd (p.1.1 s.entries q.settings)
loaded_once src files (Refused fault) (TooLarge e) p q = absurd (not_bad src files e q p.1)
loaded_once src files (Refused fault) (Refused other) p q = ap Refused (p.0 ∙ sym q.0)
