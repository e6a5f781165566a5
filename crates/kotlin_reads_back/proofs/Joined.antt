-- What is printed of a file is spelled by its bytes.
use Rattle.std.proofs.Common.{◌≡◌, ℕ, zero, suc, ◌+◌, ◌-◌, true, List, [], ◌∷◌, ◌++◌, map, take, length, Option, Some, None, refl, ap, sym, subst, ◌∙◌, arith}
use Rattle.std.specs.Option.{option_map}
use Rattle.kotlin_tree.specs.declared.tokens.Gap.TheVariants as gap
use Rattle.kotlin_tree.specs.declared.tokens.TokenKind.TheVariants as q
use Rattle.kotlin_tree.specs.declared.tokens.KToken.{KToken}
use Rattle.kotlin_tree.specs.declared.files.KClass.{KClass}
use Rattle.kotlin_tree.specs.declared.files.KFile.{KFile}
use Rattle.kotlin_layout.specs.Roles.{Roles}
use Rattle.kotlin_layout.specs.Layout.{text_of}
use Rattle.kotlin_layout.specs.Shown.{file_roles}
use Rattle.kotlin_lexer.specs.Cutting.{Lexes}
use Rattle.kotlin_layout.specs.Text.{KText}
use Rattle.kotlin_grammar.specs.Files.{Content, SpellsFile}
use Rattle.kotlin_canonical_text.specs.Tokens.{Tokens, token, tokens}
use Rattle.kotlin_canonical_text.specs.Gaps.{gap_behind}
use Rattle.kotlin_canonical_text.specs.Members.{class_tree}
use Rattle.kotlin_canonical_text.specs.Heads.{first_tree}
use Rattle.kotlin_placeless.specs.Placeless.{placeless_class, placeless_content, placeless_token, placeless_tokens, placeless_file}
use Rattle.kotlin_placeless.proofs.LawsToCite.{file_lifted}
use Rattle.kotlin_printed_text.specs.Printed.{content_tree, later_trees}
use Rattle.kotlin_printed_text.proofs.LawsToCite.{file_spelled}
use Rattle.kotlin_text_apart.proofs.LawsToCite.{file_apart}
use Rattle.kotlin_lexed_text.specs.Lexable.{AreParts, is_lexable}
use Rattle.kotlin_spelling.specs.Spelling.{before_end, with_first, file_of, Spells}
use Rattle.kotlin_tree.specs.UpToPlaces.{unplaced_file, SameUpToPlaces}
use Rattle.kotlin_reads_back.specs.ReadsBack.{IsReadable, IsSettled, file_tree}
use Rattle.kotlin_reads_back.proofs.SameTree.{file_same as unplaced_same}
use Rattle.kotlin_reads_back.proofs.Paired.{text_paired}

taken : (n : ℕ) (ts : Tokens) → placeless_tokens (take n ts) ≡ take n (placeless_tokens ts)
taken zero ts = refl
taken (suc n) [] = refl
taken (suc n) (t ∷ ts) = ap (λ z. placeless_token t ∷ z) (taken n ts)

as_long : (ts : Tokens) → length (placeless_tokens ts) ≡ length ts
as_long [] = refl
as_long (t ∷ ts) = ap suc (as_long ts)

suc_more : (n : ℕ) → suc (n + 1) ≡ suc n + 1
suc_more n = omega arith

long_more : (ts : Tokens) (t : KToken) → length (ts ++ t ∷ []) ≡ length ts + 1
long_more [] t = refl
long_more (x ∷ ts) t = ap suc (long_more ts t) ∙ suc_more (length ts)

take_all : (ts : Tokens) (t : KToken) → take (length ts) (ts ++ t ∷ []) ≡ ts
take_all [] t = refl
take_all (x ∷ ts) t = ap (λ z. x ∷ z) (take_all ts t)

without_end : (ts us : Tokens) (t : KToken) → placeless_tokens ts ≡ us ++ t ∷ [] → placeless_tokens (before_end ts) ≡ us
without_end ts us t h =
    let long : length ts ≡ length us + 1 = sym (as_long ts) ∙ ap length h ∙ long_more us t in
    let less : length ts - 1 ≡ length us = omega (arith, long) in
    taken (length ts - 1) ts ∙ ap (λ z. take (length ts - 1) z) h ∙ ap (λ n. take n (us ++ t ∷ [])) less ∙ take_all us t

with_same : (o : Option KClass) (cs : List KClass) → map placeless_class (with_first o cs) ≡ with_first (option_map placeless_class o) (map placeless_class cs)
with_same None cs = refl
with_same (Some c) cs = refl

trees_same : (cs : List KClass) → with_first (first_tree cs) (later_trees cs) ≡ map class_tree cs
trees_same [] = refl
trees_same (c ∷ cs) = refl

file_same : (path : List ℕ) (z : Content) → placeless_file (file_of path z) ≡ file_of path (placeless_content z)
unfolding placeless_file
file_same path z = ap (λ cs. record (file_of path (placeless_content z)) { classes = cs }) (with_same z.head.first_class z.classes)

tree_same : (x : KFile) → file_of x.path (content_tree x) ≡ file_tree x
unfolding file_tree
tree_same x = ap (λ cs. record (file_of x.path (content_tree x)) { classes = cs }) (trees_same x.classes)

-- The text of parts that stand apart is cut into their tokens: the law of kotlin_lexed_text.
abbrev pub IsLexed : Type 0
IsLexed = (xs : Roles) → AreParts xs → is_lexable [] xs ≡ true → (ts : Tokens) × Lexes (text_of xs) ts × (placeless_tokens ts ≡ tokens gap.Plain xs ++ token q.End (gap_behind gap.Plain xs) ∷ [])

pub printed_spelled : IsLexed → (x : KFile) → IsReadable x → (z : KFile) × Spells x.path z (KText x) × (placeless_file z ≡ file_tree x)
unfolding KText
printed_spelled lexed x is =
    let xs = file_roles x in
    let l = lexed xs is.parts (file_apart x) in
    let same = without_end l.0 (tokens gap.Plain xs) (token q.End (gap_behind gap.Plain xs)) l.2 in
    let z = file_lifted (content_tree x) (before_end l.0) (subst (SpellsFile (content_tree x)) (sym same) (file_spelled x is.readable)) in (
      file_of x.path z.0,
      record { tokens = l.0; lexes = l.1; paired = text_paired xs l.0 (file_apart x) is.shallow l.2; content = z.0; spelled = z.1; is = refl },
      file_same x.path z.0 ∙ ap (file_of x.path) z.2 ∙ tree_same x,
    )

pub settled_read : IsLexed → (x : KFile) → IsReadable x → IsSettled x → (z : KFile) × Spells x.path z (KText x) × SameUpToPlaces z x
settled_read lexed x is settled =
    let r = printed_spelled lexed x is in
    (r.0, r.1, sym (unplaced_same r.0) ∙ ap unplaced_file r.2 ∙ settled)

-- Bytes spell at most one file: the law of kotlin_spelling.
abbrev pub IsOne : Type 0
IsOne = (path bytes : List ℕ) (x y : KFile) → Spells path x bytes → Spells path y bytes → x ≡ y

pub only_settled : IsLexed → IsOne → (x z : KFile) → IsReadable x → IsSettled x → Spells x.path z (KText x) → SameUpToPlaces z x
only_settled lexed one x z is settled spelled =
    let r = settled_read lexed x is settled in
    subst (λ y. SameUpToPlaces y x) (one x.path (KText x) r.0 z r.1 spelled) r.2
