-- The text of roles.
use Rattle.std.specs.Prelude.{ℕ, ◌+◌, ◌-◌, ◌*◌, replicate, List, [], ◌∷◌, ◌++◌, codes}
use Rattle.kotlin_tree.specs.Spellings.{mark_text, keyword_text, word_text}
use Rattle.kotlin_layout.specs.declared.glyphs.Glyph.{Glyph}
use Rattle.kotlin_layout.specs.declared.glyphs.Glyph.TheVariants as glyph
use Rattle.kotlin_layout.specs.Roles.{Role, Roles}
use Rattle.kotlin_layout.specs.Names.{name_text, literal_text}

-- the text so far, and by how many levels the next line is indented
pub record Printed : Type 0 where
  pub text : List ℕ
  pub levels : ℕ

abbrev pub with_more : List ℕ → Printed → Printed
with_more more p = record { text = p.text ++ more; levels = p.levels }

-- four blanks a level
abbrev pub indentation : ℕ → List ℕ
indentation levels = replicate (levels * 4) 32

unfoldable pub laid_glyph : Glyph → Printed → Printed
laid_glyph (glyph.Mark m) p = with_more (mark_text m) p
laid_glyph (glyph.Keyword w) p = with_more (keyword_text w) p
laid_glyph (glyph.Word w) p = with_more (word_text w) p
laid_glyph glyph.Semicolon p = with_more (codes ";") p
laid_glyph glyph.Blank p = with_more (codes " ") p
laid_glyph glyph.Line p = with_more (10 ∷ indentation p.levels) p
laid_glyph glyph.Deeper p = record { text = p.text; levels = p.levels + 1 }
laid_glyph glyph.Shallower p = record { text = p.text; levels = p.levels - 1 }

abbrev pub laid_role : Role → Printed → Printed
laid_role (Role.Fixed g) p = laid_glyph g p
laid_role (Role.Name n) p = with_more (name_text n) p
laid_role (Role.Literal x) p = with_more (literal_text x) p
laid_role (Role.Comment text) p = with_more text p

-- what a text becomes behind roles
unfoldable pub laid : Roles → Printed → Printed
laid [] p = p
laid (x ∷ xs) p = laid xs (laid_role x p)

abbrev pub nothing_printed : Printed
nothing_printed = record { text = []; levels = 0 }

-- the whole text of roles
abbrev pub text_of : Roles → List ℕ
text_of xs = (laid xs nothing_printed).text
