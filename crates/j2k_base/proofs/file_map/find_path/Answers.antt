use Rattle.std.proofs.Common.{◌≡◌, rules}
use Rattle.std.specs.Ordering.{nat_cmp}
use Rattle.std.specs.Cmp.Lexicographic.{slice_cmp}
use Rattle.std.proofs.lemmas.Cmp.{nat_list_cmp_total}
use Rattle.std.proofs.lemmas.Fn.{always_returns_same}
use Rattle.j2k_base.proofs.FileMaps.{searched_keys}
use Rattle.j2k_base.proofs.file_map.find_path.Goals as goal

pub returns-clause-place : goal.returns-clause-place
returns-clause-place c =
    searched_keys (slice_cmp nat_cmp) nat_list_cmp_total c.args.path.now c.args.entries.now c.binary_search_by.result c.requires c.binary_search_by.ensures.bound
    (c.binary_search_by.ensures.position (λ e. slice_cmp nat_cmp e.0 c.args.path.now)
    (always_returns_same _ (λ a r. r ≡ slice_cmp nat_cmp a.0.now.0 c.args.path.now) _ (λ a r f k. search rules)))
