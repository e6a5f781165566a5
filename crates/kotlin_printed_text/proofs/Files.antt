-- The tokens of a whole file are cut into its classes, and spell its tree.
use Rattle.std.proofs.Common.{◌≡◌, ℕ, Bool, true, false, List, [], ◌∷◌, ◌++◌, map, Option, Some, None, refl, ap, sym, subst, ◌∙◌, append_assoc}
use Rattle.std.proofs.lemmas.List.{append-nil}
use Rattle.std.specs.Prelude.{◌&&◌}
use Rattle.kotlin_tree.specs.declared.tokens.Gap.{Gap}
use Rattle.kotlin_tree.specs.declared.tokens.Gap.TheVariants as gap
use Rattle.kotlin_tree.specs.declared.types.KDotted.{KDotted}
use Rattle.kotlin_tree.specs.declared.files.KPackage.{KPackage}
use Rattle.kotlin_tree.specs.declared.files.KImport.{KImport}
use Rattle.kotlin_tree.specs.declared.files.KClass.{KClass}
use Rattle.kotlin_tree.specs.declared.files.KFile.{KFile}
use Rattle.kotlin_layout.specs.declared.glyphs.Glyph.TheVariants as g
use Rattle.kotlin_layout.specs.Roles.{Role, Roles, fixed, name, joined, lines, opened, closed, block}
use Rattle.kotlin_layout.specs.Shown.{comment_roles, modifiers_roles, class_words, type_params_roles, supers_roles, member_roles, class_roles, dotted_roles, qualified_roles, package_part, import_line, imports_part, empty_line, class_part, classes_part, is_absent, is_headless, file_roles}
use Rattle.kotlin_grammar.specs.Reading.{SpellsClass, SpellsHead}
use Rattle.kotlin_grammar.specs.Files.{apart, begun, pieces, Content, SpellsClasses, SpellsPieces, SpellsFile}
use Rattle.kotlin_canonical_files.proofs.LawsToCite.{token_sides, Spot, Ends, piece_ends, class_ends, class_is_some}
use Rattle.kotlin_canonical_text.specs.Tokens.{Tokens, tokens}
use Rattle.kotlin_canonical_text.specs.Members.{class_tree, class_readable, bare_class_roles}
use Rattle.kotlin_canonical_text.specs.Gaps.{gap_behind}
use Rattle.kotlin_canonical_text.specs.Heads.{first_readable, first_class_roles, above_roles, head_roles}
use Rattle.kotlin_canonical_text.proofs.LawsToCite.{class_spelled, class_apart, head_spelled}
use Rattle.kotlin_printed_text.specs.Printed.{content_tree, later_trees, classes_readable, file_readable}
use Rattle.kotlin_printed_text.proofs.Splits.{tokens_split, gap_split, quiet, quiet_both, quiet_passed}

both : (b c : Bool) → (b && c) ≡ true → (b ≡ true) × (c ≡ true)
both true c is = (refl, is)
both false c is = absurd (cc is)

-- ---- a class is a piece, whatever stands before it

same_sides : (ts : Tokens) → token_sides (apart ts) ≡ token_sides ts
same_sides [] = refl
same_sides (t ∷ ts) = refl

class_sides : (x : KClass) (h : Gap) → token_sides (tokens h (bare_class_roles x)) ≡ token_sides (tokens gap.Plain (bare_class_roles x))
class_sides x h = sym (same_sides (tokens h (bare_class_roles x))) ∙ ap token_sides (class_apart x h)

class_piece : (x : KClass) (h : Gap) (p ts : Tokens) → class_readable x ≡ true → pieces 0 p (tokens h (bare_class_roles x) ++ ts) ≡ (p ++ tokens h (bare_class_roles x)) ∷ pieces 0 [] ts
class_piece x h p ts readable =
    piece_ends 0 p (tokens h (bare_class_roles x)) ts
    (subst (λ z. Ends (Spot.Inside 0) z) (sym (class_sides x h)) (class_ends (class_tree x) (tokens gap.Plain (bare_class_roles x)) (class_spelled x readable)))

spells_one : (c : KClass) (cs : List KClass) (p : Tokens) (ps : List Tokens) → SpellsClass c (apart p) → SpellsClasses cs ps → SpellsClasses (c ∷ cs) (p ∷ ps)
unfolding SpellsClasses
spells_one c cs [] ps h more = absurd (class_is_some c h)
spells_one c cs (t ∷ ts) ps h more = (h, more)

class_spells : (x : KClass) (h : Gap) → class_readable x ≡ true → SpellsClass (class_tree x) (apart (tokens h (bare_class_roles x)))
class_spells x h readable = subst (SpellsClass (class_tree x)) (sym (class_apart x h)) (class_spelled x readable)

-- ---- what stands before a class and behind it

closed_gap : (h : Gap) (xs : Roles) → gap_behind h (xs ++ fixed closed) ≡ gap.Plain
closed_gap h xs = gap_split h xs (fixed closed)

class_gap : (x : KClass) (h : Gap) → gap_behind h (bare_class_roles x) ≡ gap.Plain
unfolding bare_class_roles
class_gap x h =
    let z = modifiers_roles x.modifiers ++ fixed (class_words x.word) ++ name x.name.name ++ type_params_roles x.params ++ supers_roles x.supers in
    gap_split h z (block (map member_roles x.members)) ∙ closed_gap (gap_behind h z) (fixed opened ++ lines (map member_roles x.members))

class_parts : (x : KClass) → class_roles x ≡ (comment_roles x.comments ++ bare_class_roles x)
unfolding class_roles bare_class_roles
class_parts x =
    let c = comment_roles x.comments in
    let M = modifiers_roles x.modifiers in
    let W = fixed (class_words x.word) in
    let N = name x.name.name in
    let T = type_params_roles x.params in
    let S = supers_roles x.supers in
    let B = block (map member_roles x.members) in
    ap (λ z. ((((z ++ N) ++ T) ++ S) ++ B)) (append_assoc c M W) ∙ ap (λ z. (((z ++ T) ++ S) ++ B)) (append_assoc c (M ++ W) N) ∙ ap (λ z. ((z ++ S) ++ B)) (append_assoc c (M ++ W ++ N) T)
    ∙ ap (λ z. (z ++ B)) (append_assoc c (M ++ W ++ N ++ T) S) ∙ append_assoc c (M ++ W ++ N ++ T ++ S) B

abbrev line : Roles → Roles
line r = Role.Fixed g.Line ∷ r

abbrev later : List KClass → Roles
later xs = joined (map (class_part false) xs)

-- the tokens of a class and of what stands on the lines behind it
class_tokens : (x : KClass) (h : Gap) (r : Roles) → tokens h (bare_class_roles x ++ line r) ≡ (tokens h (bare_class_roles x) ++ tokens gap.Line r)
unfolding tokens
class_tokens x h r = tokens_split h (bare_class_roles x) (line r) ∙ ap (λ z. tokens h (bare_class_roles x) ++ tokens z (line r)) (class_gap x h)

commented_tokens : (cs : List (List ℕ)) (r : Roles) → tokens gap.Line (comment_roles cs ++ r) ≡ tokens gap.Line r
unfolding tokens
commented_tokens [] r = refl
commented_tokens (c ∷ cs) r = commented_tokens cs r

later_apart : (x : KClass) (xs : List KClass) → later (x ∷ xs) ≡ line (comment_roles x.comments ++ (bare_class_roles x ++ line (later xs)))
later_apart x xs =
    append_assoc (fixed (g.Line ∷ []) ++ class_roles x) (fixed (g.Line ∷ [])) (later xs)
    ∙ ap (λ z. line (z ++ line (later xs))) (class_parts x)
    ∙ ap line (append_assoc (comment_roles x.comments) (bare_class_roles x) (line (later xs)))

later_tokens : (x : KClass) (xs : List KClass) → tokens gap.Line (later (x ∷ xs)) ≡ (tokens gap.Line (bare_class_roles x) ++ tokens gap.Line (later xs))
unfolding tokens
later_tokens x xs = ap (tokens gap.Line) (later_apart x xs) ∙ commented_tokens x.comments (bare_class_roles x ++ line (later xs)) ∙ class_tokens x gap.Line (later xs)

-- the classes behind the first piece
later_spelled : (xs : List KClass) → classes_readable xs ≡ true → SpellsClasses (map class_tree xs) (pieces 0 [] (tokens gap.Line (later xs)))
unfolding tokens pieces SpellsClasses
later_spelled [] readable = refl
later_spelled (x ∷ xs) readable =
    let k = both (class_readable x) (classes_readable xs) readable in
    subst (SpellsClasses (map class_tree (x ∷ xs))) (sym (ap (pieces 0 []) (later_tokens x xs) ∙ class_piece x gap.Line [] (tokens gap.Line (later xs)) k.0))
    (spells_one (class_tree x) (map class_tree xs) (tokens gap.Line (bare_class_roles x)) (pieces 0 [] (tokens gap.Line (later xs))) (class_spells x gap.Line k.0) (later_spelled xs k.1))

-- ---- what stands before the first class has no brackets

dots_quiet : (xs : List KDotted) → quiet (joined (map dotted_roles xs)) ≡ true
dots_quiet [] = refl
dots_quiet (x ∷ xs) = dots_quiet xs

comments_quiet : (cs : List (List ℕ)) → quiet (comment_roles cs) ≡ true
comments_quiet [] = refl
comments_quiet (c ∷ cs) = comments_quiet cs

import_quiet : (x : KImport) → quiet (import_line x) ≡ true
import_quiet x = quiet_both (qualified_roles x.name) (fixed (g.Line ∷ [])) (dots_quiet x.name.rest) refl

joined_quiet : (xs : List KImport) → quiet (joined (map import_line xs)) ≡ true
joined_quiet [] = refl
joined_quiet (x ∷ xs) = quiet_both (import_line x) (joined (map import_line xs)) (import_quiet x) (joined_quiet xs)

line_quiet : (first : Bool) → quiet (empty_line first) ≡ true
line_quiet true = refl
line_quiet false = refl

imports_quiet : (first : Bool) (xs : List KImport) → quiet (imports_part first xs) ≡ true
imports_quiet first [] = refl
imports_quiet first (x ∷ xs) = quiet_both (empty_line first) (joined (map import_line (x ∷ xs))) (line_quiet first) (joined_quiet (x ∷ xs))

package_quiet : (x : Option KPackage) → quiet (package_part x) ≡ true
package_quiet None = refl
package_quiet (Some x) = quiet_both (qualified_roles x.name) (fixed (g.Line ∷ [])) (dots_quiet x.name.rest) refl

above_quiet : (x : KFile) → quiet (above_roles x) ≡ true
above_quiet x = quiet_both (package_part x.package) (imports_part (is_absent x.package) x.imports) (package_quiet x.package) (imports_quiet (is_absent x.package) x.imports)

-- ---- the whole file

by_classes : (u : Roles) (first : Bool) (cs : List KClass) (x : Content) → quiet u ≡ true → classes_readable cs ≡ true → x.classes ≡ later_trees cs
    → SpellsHead x.head (begun (tokens gap.Plain (u ++ first_class_roles first cs))) → SpellsFile x (tokens gap.Plain (u ++ classes_part first cs))
unfolding SpellsPieces SpellsClasses pieces tokens
by_classes u first [] x calm readable is h =
    let alone : tokens gap.Plain (u ++ []) ≡ (tokens gap.Plain (u ++ []) ++ []) = sym (append-nil (tokens gap.Plain (u ++ []))) in
    let one : pieces 0 [] (tokens gap.Plain (u ++ [])) ≡ tokens gap.Plain (u ++ []) ∷ [] = ap (pieces 0 []) alone ∙ quiet_passed gap.Plain (u ++ []) [] [] (quiet_both u [] calm refl) in
    subst (SpellsPieces x) (sym one) (h, is)
by_classes u first (c ∷ cs) x calm readable is h =
    let k = both (class_readable c) (classes_readable cs) readable in
    let v = empty_line first ++ comment_roles c.comments in
    let w = u ++ v in
    let b = bare_class_roles c in
    let g0 = gap_behind gap.Plain w in
    let apart0 : (u ++ classes_part first (c ∷ cs)) ≡ (w ++ (b ++ line (later cs))) =
    ap (λ z. u ++ z) (append_assoc (empty_line first ++ class_roles c) (line []) (later cs)
    ∙ ap (λ z. (empty_line first ++ z) ++ line (later cs)) (class_parts c)
    ∙ ap (λ z. z ++ line (later cs)) (sym (append_assoc (empty_line first) (comment_roles c.comments) b))
    ∙ append_assoc v b (line (later cs)))
    ∙ sym (append_assoc u v (b ++ line (later cs))) in
    let ts : tokens gap.Plain (u ++ classes_part first (c ∷ cs)) ≡ (tokens gap.Plain w ++ (tokens g0 b ++ tokens gap.Line (later cs))) =
    ap (tokens gap.Plain) apart0 ∙ tokens_split gap.Plain w (b ++ line (later cs)) ∙ ap (λ z. tokens gap.Plain w ++ z) (class_tokens c g0 (later cs)) in
    let calm0 : quiet w ≡ true = quiet_both u v calm (quiet_both (empty_line first) (comment_roles c.comments) (line_quiet first) (comments_quiet c.comments)) in
    let cut : pieces 0 [] (tokens gap.Plain (u ++ classes_part first (c ∷ cs))) ≡ (tokens gap.Plain w ++ tokens g0 b) ∷ pieces 0 [] (tokens gap.Line (later cs)) =
    ap (pieces 0 []) ts ∙ quiet_passed gap.Plain w [] (tokens g0 b ++ tokens gap.Line (later cs)) calm0 ∙ class_piece c g0 (tokens gap.Plain w) (tokens gap.Line (later cs)) k.0 in
    let whole : tokens gap.Plain (u ++ first_class_roles first (c ∷ cs)) ≡ (tokens gap.Plain w ++ tokens g0 b) =
    ap (tokens gap.Plain) (sym (append_assoc u v b)) ∙ tokens_split gap.Plain w b in
    subst (SpellsPieces x) (sym cut)
    (subst (λ z. SpellsHead x.head (begun z)) whole h, subst (λ z. SpellsClasses z (pieces 0 [] (tokens gap.Line (later cs)))) (sym is) (later_spelled cs k.1))

first_of : (cs : List KClass) → classes_readable cs ≡ true → first_readable cs ≡ true
first_of [] is = refl
first_of (x ∷ xs) is = (both (class_readable x) (classes_readable xs) is).0

pub file_spelled : (x : KFile) → file_readable x ≡ true → SpellsFile (content_tree x) (tokens gap.Plain (file_roles x))
unfolding file_readable file_roles head_roles
file_spelled x readable =
    by_classes (above_roles x) (is_headless x.package x.imports) x.classes (content_tree x) (above_quiet x) readable refl (head_spelled x (first_of x.classes readable))
