-- What stands before the next token behind a text.
use Rattle.std.specs.Prelude.{[], ◌∷◌}
use Rattle.kotlin_tree.specs.declared.tokens.Gap.{Gap}
use Rattle.kotlin_tree.specs.declared.tokens.Gap.TheVariants as gap
use Rattle.kotlin_layout.specs.declared.glyphs.Glyph.TheVariants as g
use Rattle.kotlin_layout.specs.Roles.{Role, Roles}
use Rattle.kotlin_canonical_text.specs.Tokens.{lined}

abbrev pub gap_behind : Gap → Roles → Gap
gap_behind h [] = h
gap_behind h (Role.Fixed (g.Mark x) ∷ r) = gap_behind gap.Plain r
gap_behind h (Role.Fixed (g.Keyword x) ∷ r) = gap_behind gap.Plain r
gap_behind h (Role.Fixed (g.Word x) ∷ r) = gap_behind gap.Plain r
gap_behind h (Role.Fixed g.Semicolon ∷ r) = gap_behind gap.Semicolon r
gap_behind h (Role.Fixed g.Line ∷ r) = gap_behind (lined h) r
gap_behind h (Role.Fixed g.Blank ∷ r) = gap_behind h r
gap_behind h (Role.Fixed g.Deeper ∷ r) = gap_behind h r
gap_behind h (Role.Fixed g.Shallower ∷ r) = gap_behind h r
gap_behind h (Role.Name n ∷ r) = gap_behind gap.Plain r
gap_behind h (Role.Literal x ∷ r) = gap_behind gap.Plain r
gap_behind h (Role.Comment x ∷ r) = gap_behind h r
