-- What is cut off pieces, and what follows it.
use Rattle.std.proofs.Common.{◌≡◌, ◌<◌, ◌^◌, ℕ, List, [], ◌∷◌, length, Option, Some, None, Result, Ok, Err, arith}
use Rattle.std.specs.Borrow.{Bor}
use Rattle.j2k_base.specs.declared.errors.NoMemory.{NoMemory}
use Rattle.java_token_cursor.specs.declared.piece.Piece.{Piece}
use Rattle.java_token_cursor.specs.Shown.{shown}
use Rattle.java_type_parser.specs.Gives.{Gives, Always}
use Rattle.java_type_parser.proofs.LawsToCite.{length_shown}
use Rattle.java_unit_grammar.specs.Cutting.{Stop, cut}
use Rattle.java_body_cuts.specs.declared.cutting.CutFound.{CutFound}
use Rattle.java_body_cuts.specs.Cuts.{all_shown, cut_seen}
use Rattle.java_body_parser.specs.Heads.{AllSmall, CutFits}
use Rattle.java_body_parser.proofs.Sizes.{AllWithin, cut_within}

all_small : (n : ℕ) (ts : List (Bor (List Piece))) → n < 2 ^ 32 → AllWithin n (all_shown ts) → AllSmall ts
all_small n [] h w = tt
all_small n (t ∷ ts) h w = let l = length_shown t.now in let k = w.0 in (omega (arith, l, k, h), all_small n ts h w.1)

pub cut_fits : (stop : Stop) (ts : List Piece) (x : CutFound) → length ts < 2 ^ 32 → cut stop (shown ts) ≡ Some (cut_seen x) → CutFits ts x
cut_fits stop ts x h e =
    let w = cut_within stop (shown ts) (cut_seen x) e in
    let l = length_shown ts in
    let k = length_shown x.rest.now in
    let r = w.rest in
    (omega (arith, l, k, r), all_small (length (shown ts)) x.bodies.items (omega (arith, l, h)) w.bodies)

pub cut_given : (stop : Stop) (ts : List Piece) (x : Result (Option CutFound) NoMemory) → length ts < 2 ^ 32
    → Gives cut_seen Always (cut stop (shown ts)) x → Gives cut_seen (CutFits ts) (cut stop (shown ts)) x
cut_given stop ts (Err e) h g = tt
cut_given stop ts (Ok None) h g = g
cut_given stop ts (Ok (Some x)) h g = (g.0, cut_fits stop ts x h g.0)
