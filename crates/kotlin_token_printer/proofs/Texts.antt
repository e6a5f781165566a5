-- Texts behind one another.
use Rattle.std.proofs.Common.{◌≡◌, ℕ, ◌+◌, ◌*◌, ◌++◌, List, ap, ◌∙◌, arith, append_assoc, ◌<◌, length, take, get_or, [], ◌∷◌, sym}
use Rattle.std.specs.Prelude.{codes, replicate}
use Rattle.std.proofs.lemmas.List.{replicate-append-replicate}
use Rattle.kotlin_layout.specs.declared.glyphs.Glyph.{Glyph}
use Rattle.kotlin_layout.specs.Roles.{Role, Glyphs, fixed}
use Rattle.kotlin_layout.specs.Layout.{Printed, indentation, laid, laid_glyph}
use Rattle.kotlin_layout.proofs.LawsToCite.{laid_nil, laid_cons, laid_append}
use Rattle.std.proofs.lemmas.List.{map-append, take_more}

-- one level more
pub level_more : (i : ℕ) → indentation i ++ codes "    " ≡ indentation (i + 1)
level_more i =
    let e : i * 4 + 4 ≡ (i + 1) * 4 = omega arith in
    replicate-append-replicate (i * 4) 4 32 ∙ ap (λ n. replicate n 32) e

pub ruleset texts = (append_assoc, level_more)

-- a turn of a loop over glyphs
pub glyph_at : (list : Glyphs) (i : ℕ) (d : Glyph) (p q v : Printed)
    → i < length list → q ≡ laid (fixed (take i list)) p → v ≡ laid_glyph (get_or list i d) q → v ≡ laid (fixed (take (i + 1) list)) p
glyph_at list i d p q v lt inv then =
    rw (take_more list i d lt) (
    then ∙ ap (λ z. laid_glyph (get_or list i d) z) inv
    ∙ sym (laid_cons (Role.Fixed (get_or list i d)) [] (laid (fixed (take i list)) p) ∙ laid_nil (laid_glyph (get_or list i d) (laid (fixed (take i list)) p)))
    ∙ sym (laid_append (fixed (take i list)) (Role.Fixed (get_or list i d) ∷ []) p)
    ∙ ap (λ z. laid z p) (sym (map-append Role.Fixed (take i list) (get_or list i d ∷ [])))
    )
