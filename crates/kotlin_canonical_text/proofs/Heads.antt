-- The head of a file: the package line, the imports, and what stands behind them on a line of its own.
use Rattle.std.proofs.Common.{◌≡◌, ℕ, Bool, true, false, List, [], ◌∷◌, ◌++◌, map, Option, Some, None, refl, ap, sym, subst, ◌∙◌, append_assoc}
use Rattle.std.proofs.lemmas.List.{append-nil}
use Rattle.std.specs.Prelude.{if◌then◌else◌, nat_eq}
use Rattle.std.specs.Option.{option_map}
use Rattle.grammar.specs.declared.symbols.Symbol.TheVariants as y
use Rattle.kotlin_tree.specs.declared.tokens.Gap.{Gap}
use Rattle.kotlin_tree.specs.declared.tokens.Gap.TheVariants as gap
use Rattle.kotlin_tree.specs.declared.tokens.Word.TheVariants as o
use Rattle.kotlin_tree.specs.declared.tokens.TokenKind.TheVariants as q
use Rattle.kotlin_tree.specs.declared.tokens.KToken.{KToken}
use Rattle.kotlin_tree.specs.declared.types.KDotted.{KDotted}
use Rattle.kotlin_tree.specs.declared.types.KQualified.{KQualified}
use Rattle.kotlin_tree.specs.declared.files.KPackage.{KPackage}
use Rattle.kotlin_tree.specs.declared.files.KImport.{KImport}
use Rattle.kotlin_tree.specs.declared.files.KClass.{KClass}
use Rattle.kotlin_tree.specs.declared.files.KFile.{KFile}
use Rattle.kotlin_tree.specs.declared.members.KModifierKind.{KModifierKind}
use Rattle.kotlin_tree.specs.declared.members.KModifierKind.TheVariants as modifier
use Rattle.kotlin_tree.specs.declared.members.KModifier.{KModifier}
use Rattle.kotlin_tree.specs.declared.files.KClassWord.{KClassWord}
use Rattle.kotlin_tree.specs.declared.files.KClassWord.TheVariants as class
use Rattle.kotlin_tree.specs.UpToPlaces.{made, unplaced_dotted, unplaced_qualified, unplaced_package, unplaced_import}
use Rattle.kotlin_layout.specs.declared.glyphs.Glyph.TheVariants as g
use Rattle.kotlin_layout.specs.Roles.{Role, Roles, fixed, name, joined, block}
use Rattle.kotlin_layout.specs.Shown.{qualified_roles, package_line, import_line, package_part, imports_part, comment_roles, is_absent, is_headless, rank, modifier_glyphs, if_ranked, ranked, modifiers_roles, class_words, type_params_roles, supers_roles, member_roles}
use Rattle.kotlin_grammar.specs.declared.letters.Kind.{Kind}
use Rattle.kotlin_grammar.specs.declared.letters.Kind.TheVariants as k
use Rattle.kotlin_grammar.specs.declared.letters.Term.TheVariants as t
use Rattle.kotlin_grammar.specs.declared.letters.Form.TheVariants as f
use Rattle.kotlin_grammar.specs.declared.letters.Way.TheVariants as w
use Rattle.kotlin_grammar.specs.declared.built.Built.{Built}
use Rattle.kotlin_grammar.specs.Table.{Symbols, written, accepts}
use Rattle.kotlin_grammar.specs.Ahead.{Letters, letters, letter_by, mark_kind, keyword_kind, word_kind, with_gap, stands, is_less, is_at, is_curly, arguments_ahead}
use Rattle.kotlin_grammar.specs.Taking.{takes, broken}
use Rattle.kotlin_grammar.specs.Meaning.{taken}
use Rattle.kotlin_grammar.specs.Parts.{empty, with_class, last_class, with_package, last_package, with_imports, last_imports}
use Rattle.kotlin_grammar.specs.Reading.{SpellsHead, start, head_of}
use Rattle.kotlin_grammar.specs.Files.{apart, begun as begun_tokens}
use Rattle.kotlin_canonical_text.specs.Tokens.{token, tokens}
use Rattle.kotlin_canonical_text.specs.Members.{class_tree, class_readable, bare_class_roles}
use Rattle.kotlin_canonical_text.specs.Heads.{first_tree, head_tree, first_readable, first_class_roles, head_roles}
use Rattle.kotlin_canonical_text.proofs.Names.{L, Free, takes_name, named_plain}
use Rattle.kotlin_canonical_text.proofs.Firsts.{relaxed_plain, begins_name, first_less, first_at}
use Rattle.kotlin_canonical_text.proofs.Types.{Tight, path, tight_path, more_dots}
use Rattle.kotlin_canonical_text.proofs.Steps.{Der, done, way, take, take_blank, act}
use Rattle.kotlin_canonical_text.proofs.Modifiers.{modifiers_apart}
use Rattle.kotlin_canonical_text.proofs.Classes.{class_leads, class_read}
use Rattle.kotlin_canonical_text.proofs.Acts.{place, qual, dotted, acts_Qualified, acts_AddDotted}
use Rattle.kotlin_canonical_text.proofs.MemberActs.{pack, imports, klass, acts_Package, acts_NoPackage, acts_NoImports, acts_Import}

-- ---- a name with dots

free_tight : (r : Roles) → Tight r → Free (L gap.Plain r)
free_tight r tight = ap (λ z. if z then arguments_ahead (L gap.Plain r) else stands is_at (L gap.Plain r)) tight.0 ∙ tight.1

calm_dots : (xs : List KDotted) (r : Roles) → stands is_curly (L gap.Plain r) ≡ false → stands is_curly (L gap.Plain (path xs ++ r)) ≡ false
unfolding letters tokens mark_kind
calm_dots [] r calm = calm
calm_dots (x ∷ xs) r calm = refl

dots_read : (xs : List KDotted) (q : KQualified) (s : Symbols) (b : Built) (r : Roles) (new : Built) → Tight r → stands is_curly (L gap.Plain r) ≡ false
    → Der s (qual (more_dots q xs) b) (L gap.Plain r) new → Der (y.Form f.QualifiedMore ∷ s) (qual q b) (L gap.Plain (path xs ++ r)) new
unfolding written takes letters tokens accepts taken mark_kind
dots_read [] q s b r new tight calm h = way w.QualifiedEnd (subst (λ z. Der s (qual (record { first = q.first; rest = z }) b) (L gap.Plain r) new) (append-nil q.rest) h)
dots_read (x ∷ xs) q s b r new tight calm h = way w.QualifiedDot (take_blank (relaxed_plain (Role.Name x.name.name ∷ []) (path xs ++ r) (begins_name x.name.name [] (path xs ++ r))) refl
    (take (takes_name x.name.name (path xs ++ r) (place (qual q b)) (free_tight (path xs ++ r) (tight_path xs r tight)) (λ is. calm_dots xs r calm))
    (act (acts_AddDotted q x.name.name b)
    (dots_read xs (dotted q x.name.name) s b r new tight calm
    (subst (λ z. Der s (qual (record { first = q.first; rest = z }) b) (L gap.Plain r) new) (sym (append_assoc q.rest (unplaced_dotted x ∷ []) (map unplaced_dotted xs))) h)))))

qualified_read : (x : KQualified) (s : Symbols) (b : Built) (r : Roles) (new : Built) → Tight r → stands is_curly (L gap.Plain r) ≡ false
    → Der s (qual (unplaced_qualified x) b) (L gap.Plain r) new → Der (y.Form f.Qualified ∷ s) b (L gap.Plain (qualified_roles x ++ r)) new
unfolding written
qualified_read x s b r new tight calm h = way w.QualifiedName
    (take (takes_name x.first.name (path x.rest ++ r) b (free_tight (path x.rest ++ r) (tight_path x.rest r tight)) (λ is. calm_dots x.rest r calm))
    (act (acts_Qualified x.first.name b)
    (dots_read x.rest (record { first = record { name = x.first.name; at = made }; rest = [] }) s b r new tight calm h)))

-- ---- lines

-- what a line begins with, with this gap before it
pub record Begun (r : Roles) : Type 0 where
  pub kind : Kind
  pub front : KToken
  pub more : Letters
  pub is : (h : Gap) → L h r ≡ record { kind = kind; token = with_gap h front } ∷ more

-- What stands on the lines behind a package line or an import is read.
pub record Follows (s : Symbols) (b : Built) (r : Roles) (new : Built) : Type 0 where
  pub quiet : (p : Kind → Bool) → stands p (L gap.Line r) ≡ false
  pub reads : Der (y.Form f.AfterLine ∷ s) b (L gap.Line r) new

pub ended : (s : Symbols) (b : Built) (new : Built) → Der s b [] new → Follows s b [] new
unfolding letters tokens written
ended s b new h = record { quiet = λ p. refl; reads = way w.AfterLineEnd h }

ends_by : (c : Kind) → accepts t.Ends (broken c) ≡ true
unfolding accepts
ends_by k.While = refl
ends_by k.PrivateSet = refl
ends_by _ = refl

takes_end : (r : Roles) (b : Built) → (x : Begun r) → takes taken t.Ends b (L gap.Line r) ≡ Some (b, L gap.Plain r)
unfolding takes
takes_end r b x =
    ap (takes taken t.Ends b) (x.is gap.Line)
    ∙ ap (λ z. if z then Some (b, record { kind = x.kind; token = with_gap gap.Plain x.front } ∷ x.more) else None) (ends_by x.kind)
    ∙ ap (λ z. Some (b, z)) (sym (x.is gap.Plain))

pub begun : (s : Symbols) (b : Built) (r : Roles) (new : Built) → Begun r → Der (y.Form f.Lines ∷ s) b (L gap.Plain r) new → Follows s b r new
unfolding written
begun s b r new x h = record { quiet = λ p. ap (stands p) (x.is gap.Line); reads = way w.AfterLineMore (take (takes_end r b x) h) }

-- also behind an empty line
pub spaced : (s : Symbols) (b : Built) (r : Roles) (new : Built) → Follows s b r new → Follows s b (Role.Fixed g.Line ∷ r) new
unfolding letters tokens
spaced s b r new h = record { quiet = h.quiet; reads = h.reads }

abbrev pub line : Roles → Roles
line r = Role.Fixed g.Line ∷ r

pub package_read : (x : KPackage) (s : Symbols) (b : Built) (r : Roles) (new : Built) → Follows s (imports [] (pack (Some (record { at = made; name = unplaced_qualified x.name })) b)) r new
    → Der (y.Form f.FileHead ∷ s) b (L gap.Plain (package_line x ++ line r)) new
unfolding written takes letters tokens accepts taken keyword_kind
package_read x s b r new h = way w.FilePackage (take refl
    (qualified_read x.name _ (place b) (line r) new (h.quiet is_less, h.quiet is_at) (h.quiet is_curly)
    (act (acts_Package (unplaced_qualified x.name) b) (act (acts_NoImports (pack (Some (record { at = made; name = unplaced_qualified x.name })) b)) h.reads))))

-- ---- imports

import_kind : (n : List ℕ) (r : Roles) → word_kind o.Import (L gap.Plain (Role.Name n ∷ r)) ≡ k.ImportWord
unfolding word_kind
import_kind n r = named_plain k.ImportWord (L gap.Plain (Role.Name n ∷ r)) (first_less (Role.Name n ∷ []) r gap.Plain (begins_name n [] r)) (first_at (Role.Name n ∷ []) r gap.Plain (begins_name n [] r))

takes_import : (n : List ℕ) (r : Roles) (b : Built) → takes taken (t.Only k.ImportWord) b (L gap.Plain (Role.Fixed (g.Word o.Import) ∷ Role.Name n ∷ r)) ≡ Some (place b, L gap.Plain (Role.Name n ∷ r))
unfolding takes letters tokens accepts taken
takes_import n r b = ap (λ c. takes taken (t.Only k.ImportWord) b (letter_by c (token (q.Word o.Import) gap.Plain) ∷ L gap.Plain (Role.Name n ∷ r))) (import_kind n r)

abbrev pub import_made : KImport → KImport
import_made x = record { at = made; name = unplaced_qualified x.name }

import_begun : (x : KImport) (r : Roles) → Begun (import_line x ++ r)
unfolding letters tokens
import_begun x r =
    let z = (path x.name.rest ++ (line [])) ++ r in
    record {
      kind = k.ImportWord;
      front = token (q.Word o.Import) gap.Plain;
      more = L gap.Plain (Role.Name x.name.first.name ∷ z);
      is = λ h. ap (λ c. letter_by c (token (q.Word o.Import) h) ∷ L gap.Plain (Role.Name x.name.first.name ∷ z)) (import_kind x.name.first.name z);
    }

import_read : (x : KImport) (xs : List KImport) (s : Symbols) (b : Built) (r : Roles) (new : Built) → Follows s (imports (xs ++ import_made x ∷ []) b) r new
    → Der (y.Form f.Lines ∷ s) (imports xs b) (L gap.Plain (import_line x ++ r)) new
unfolding written tokens
import_read x xs s b r new h =
    let z = path x.name.rest ++ line r in
    subst (λ u. Der (y.Form f.Lines ∷ s) (imports xs b) (L gap.Plain (Role.Fixed (g.Word o.Import) ∷ Role.Fixed g.Blank ∷ Role.Name x.name.first.name ∷ u)) new) (sym (append_assoc (path x.name.rest) (line []) r))
    (way w.LinesImport (take (takes_import x.name.first.name z (imports xs b))
    (qualified_read x.name _ (place (imports xs b)) (line r) new (h.quiet is_less, h.quiet is_at) (h.quiet is_curly)
    (act (acts_Import xs (unplaced_qualified x.name) b) h.reads))))

pub imports_follow : (ps : List KImport) (xs : List KImport) (s : Symbols) (b : Built) (r : Roles) (new : Built) → Follows s (imports (xs ++ map import_made ps) b) r new
    → Follows s (imports xs b) (joined (map import_line ps) ++ r) new
imports_follow [] xs s b r new h = subst (λ u. Follows s (imports u b) r new) (append-nil xs) h
imports_follow (x ∷ ps) xs s b r new h =
    let z = joined (map import_line ps) ++ r in
    subst (λ u. Follows s (imports xs b) u new) (sym (append_assoc (import_line x) (joined (map import_line ps)) r))
    (begun s (imports xs b) (import_line x ++ z) new (import_begun x z)
    (import_read x xs s b z new
    (imports_follow ps (xs ++ import_made x ∷ []) s b r new
    (subst (λ u. Follows s (imports u b) r new) (sym (append_assoc xs (import_made x ∷ []) (map import_made ps))) h))))

-- ---- the first class

class_begun : (x : KClass) (r : Roles) → Begun (bare_class_roles x ++ r)
class_begun x r = let l = class_leads x r in record { kind = l.kind; front = l.front; more = l.more; is = l.is }

commented : (cs : List (List ℕ)) (s : Symbols) (b : Built) (r : Roles) (new : Built) → Follows s b r new → Follows s b (comment_roles cs ++ r) new
unfolding letters tokens
commented [] s b r new h = h
commented (c ∷ cs) s b r new h = let f = commented cs s b r new h in record { quiet = f.quiet; reads = f.reads }

abbrev class_built : List KClass → Built → Built
class_built [] b = b
class_built (x ∷ xs) b = klass (class_tree x) b

only_class : (x : KClass) (b : Built) → class_readable x ≡ true → Der (y.Form f.Lines ∷ []) b (L gap.Plain (bare_class_roles x)) (klass (class_tree x) b)
unfolding written letters tokens
only_class x b readable =
    subst (λ u. Der (y.Form f.Lines ∷ []) b (L gap.Plain u) (klass (class_tree x) b)) (append-nil (bare_class_roles x))
    (way w.LinesClass (class_read x [] b [] (klass (class_tree x) b) readable (done (klass (class_tree x) b))))

first_begun : (x : KClass) → Begun (bare_class_roles x)
first_begun x = subst Begun (append-nil (bare_class_roles x)) (class_begun x [])

class_follows : (cs : List KClass) (b : Built) → first_readable cs ≡ true → Follows [] b (first_class_roles false cs) (class_built cs b)
class_follows [] b readable = ended [] b b (done b)
class_follows (x ∷ xs) b readable =
    let new = klass (class_tree x) b in
    spaced [] b (comment_roles x.comments ++ bare_class_roles x) new
    (commented x.comments [] b (bare_class_roles x) new
    (begun [] b (bare_class_roles x) new (first_begun x) (only_class x b readable)))

-- ---- the gap before the first token

-- a token stands before any line end
abbrev fronted : Roles → Bool
fronted [] = false
fronted (Role.Fixed (g.Mark x) ∷ r) = true
fronted (Role.Fixed (g.Keyword x) ∷ r) = true
fronted (Role.Fixed (g.Word x) ∷ r) = true
fronted (Role.Fixed g.Semicolon ∷ r) = false
fronted (Role.Fixed g.Line ∷ r) = false
fronted (Role.Fixed g.Blank ∷ r) = fronted r
fronted (Role.Fixed g.Deeper ∷ r) = fronted r
fronted (Role.Fixed g.Shallower ∷ r) = fronted r
fronted (Role.Name n ∷ r) = true
fronted (Role.Literal x ∷ r) = true
fronted (Role.Comment x ∷ r) = fronted r

apart_fronted : (h : Gap) (r : Roles) → fronted r ≡ true → apart (tokens h r) ≡ tokens gap.Plain r
unfolding tokens
apart_fronted h [] is = absurd (cc is)
apart_fronted h (Role.Fixed (g.Mark x) ∷ r) is = refl
apart_fronted h (Role.Fixed (g.Keyword x) ∷ r) is = refl
apart_fronted h (Role.Fixed (g.Word x) ∷ r) is = refl
apart_fronted h (Role.Fixed g.Semicolon ∷ r) is = absurd (cc is)
apart_fronted h (Role.Fixed g.Line ∷ r) is = absurd (cc is)
apart_fronted h (Role.Fixed g.Blank ∷ r) is = apart_fronted h r is
apart_fronted h (Role.Fixed g.Deeper ∷ r) is = apart_fronted h r is
apart_fronted h (Role.Fixed g.Shallower ∷ r) is = apart_fronted h r is
apart_fronted h (Role.Name n ∷ r) is = refl
apart_fronted h (Role.Literal x ∷ r) is = refl
apart_fronted h (Role.Comment x ∷ r) is = apart_fronted h r is

begun_fronted : (r : Roles) → fronted r ≡ true → begun_tokens (tokens gap.Plain r) ≡ tokens gap.Plain r
unfolding tokens
begun_fronted [] is = absurd (cc is)
begun_fronted (Role.Fixed (g.Mark x) ∷ r) is = refl
begun_fronted (Role.Fixed (g.Keyword x) ∷ r) is = refl
begun_fronted (Role.Fixed (g.Word x) ∷ r) is = refl
begun_fronted (Role.Fixed g.Semicolon ∷ r) is = absurd (cc is)
begun_fronted (Role.Fixed g.Line ∷ r) is = absurd (cc is)
begun_fronted (Role.Fixed g.Blank ∷ r) is = begun_fronted r is
begun_fronted (Role.Fixed g.Deeper ∷ r) is = begun_fronted r is
begun_fronted (Role.Fixed g.Shallower ∷ r) is = begun_fronted r is
begun_fronted (Role.Name n ∷ r) is = refl
begun_fronted (Role.Literal x ∷ r) is = refl
begun_fronted (Role.Comment x ∷ r) is = begun_fronted r is

-- a line end before the first token is none
regapped : (r : Roles) → begun_tokens (tokens gap.Line r) ≡ begun_tokens (tokens gap.Plain r)
unfolding tokens
regapped [] = refl
regapped (Role.Fixed (g.Mark x) ∷ r) = refl
regapped (Role.Fixed (g.Keyword x) ∷ r) = refl
regapped (Role.Fixed (g.Word x) ∷ r) = refl
regapped (Role.Fixed g.Semicolon ∷ r) = refl
regapped (Role.Fixed g.Line ∷ r) = refl
regapped (Role.Fixed g.Blank ∷ r) = regapped r
regapped (Role.Fixed g.Deeper ∷ r) = regapped r
regapped (Role.Fixed g.Shallower ∷ r) = regapped r
regapped (Role.Name n ∷ r) = refl
regapped (Role.Literal x ∷ r) = refl
regapped (Role.Comment x ∷ r) = regapped r

begun_commented : (cs : List (List ℕ)) (r : Roles) → begun_tokens (tokens gap.Plain (comment_roles cs ++ r)) ≡ begun_tokens (tokens gap.Plain r)
unfolding tokens
begun_commented [] r = refl
begun_commented (c ∷ cs) r = regapped (comment_roles cs ++ r) ∙ begun_commented cs r

-- ---- a class begins with a token

still_fronted : (xs ys : Roles) → fronted xs ≡ true → fronted (xs ++ ys) ≡ true
still_fronted [] ys is = absurd (cc is)
still_fronted (Role.Fixed (g.Mark x) ∷ r) ys is = refl
still_fronted (Role.Fixed (g.Keyword x) ∷ r) ys is = refl
still_fronted (Role.Fixed (g.Word x) ∷ r) ys is = refl
still_fronted (Role.Fixed g.Semicolon ∷ r) ys is = absurd (cc is)
still_fronted (Role.Fixed g.Line ∷ r) ys is = absurd (cc is)
still_fronted (Role.Fixed g.Blank ∷ r) ys is = still_fronted r ys is
still_fronted (Role.Fixed g.Deeper ∷ r) ys is = still_fronted r ys is
still_fronted (Role.Fixed g.Shallower ∷ r) ys is = still_fronted r ys is
still_fronted (Role.Name n ∷ r) ys is = refl
still_fronted (Role.Literal x ∷ r) ys is = refl
still_fronted (Role.Comment x ∷ r) ys is = still_fronted r ys is

modifier_fronted : (x : KModifierKind) (z : Roles) → fronted (fixed (modifier_glyphs x) ++ z) ≡ true
modifier_fronted (modifier.JvmStatic at) z = refl
modifier_fronted (modifier.JvmField at) z = refl
modifier_fronted (modifier.Synchronized at) z = refl
modifier_fronted (modifier.Volatile at) z = refl
modifier_fronted modifier.Private z = refl
modifier_fronted modifier.Abstract z = refl
modifier_fronted modifier.Open z = refl
modifier_fronted modifier.Override z = refl
modifier_fronted modifier.Const z = refl

if_fronted : (b : Bool) (x : KModifierKind) (z : Roles) → fronted z ≡ true → fronted ((if b then fixed (modifier_glyphs x) else []) ++ z) ≡ true
if_fronted true x z is = modifier_fronted x z
if_fronted false x z is = is

ranked_fronted : (xs : List KModifier) (r : ℕ) (z : Roles) → fronted z ≡ true → fronted (ranked xs r ++ z) ≡ true
ranked_fronted [] r z is = is
ranked_fronted (x ∷ xs) r z is =
    subst (λ u. fronted u ≡ true) (sym (append_assoc (if_ranked r x) (ranked xs r) z)) (if_fronted (nat_eq (rank x.kind) r) x.kind (ranked xs r ++ z) (ranked_fronted xs r z is))

words_fronted : (x : KClassWord) → fronted (fixed (class_words x)) ≡ true
words_fronted class.Class = refl
words_fronted class.Interface = refl
words_fronted (class.FunClass at) = refl
words_fronted (class.FunInterface at) = refl

headed_fronted : (ms : List KModifier) (z : Roles) → fronted z ≡ true → fronted (modifiers_roles ms ++ z) ≡ true
headed_fronted ms z is =
    subst (λ u. fronted u ≡ true) (sym (modifiers_apart ms z))
    (ranked_fronted ms 0 _ (ranked_fronted ms 1 _ (ranked_fronted ms 2 _ (ranked_fronted ms 3 _ (ranked_fronted ms 4 _ (ranked_fronted ms 5 _ (ranked_fronted ms 6 _ (ranked_fronted ms 7 _ (ranked_fronted ms 8 z is)))))))))

class_fronted : (x : KClass) → fronted (bare_class_roles x) ≡ true
unfolding bare_class_roles
class_fronted x =
    let a = modifiers_roles x.modifiers ++ fixed (class_words x.word) in
    let c = a ++ name x.name.name in
    let d = c ++ type_params_roles x.params in
    let e = d ++ supers_roles x.supers in
    still_fronted e (block (map member_roles x.members)) (still_fronted d (supers_roles x.supers) (still_fronted c (type_params_roles x.params) (still_fronted a (name x.name.name)
    (headed_fronted x.modifiers (fixed (class_words x.word)) (words_fronted x.word)))))

-- Whatever stands before a class, its tokens are those of a class of its own.
pub class_apart : (x : KClass) (h : Gap) → apart (tokens h (bare_class_roles x)) ≡ tokens gap.Plain (bare_class_roles x)
class_apart x h = apart_fronted h (bare_class_roles x) (class_fronted x)

begun_class : (x : KClass) → begun_tokens (tokens gap.Plain (comment_roles x.comments ++ bare_class_roles x)) ≡ tokens gap.Plain (bare_class_roles x)
begun_class x = begun_commented x.comments (bare_class_roles x) ∙ begun_fronted (bare_class_roles x) (class_fronted x)

-- ---- the first piece

abbrev head_built : Option KPackage → List KImport → List KClass → Built
head_built p ps cs = class_built cs (imports (map unplaced_import ps) (pack (option_map unplaced_package p) empty))

imports_behind : (ps : List KImport) (cs : List KClass) (b : Built) → first_readable cs ≡ true
    → Follows [] (imports [] b) (imports_part false ps ++ first_class_roles false cs) (class_built cs (imports (map unplaced_import ps) b))
imports_behind [] cs b readable = class_follows cs (imports [] b) readable
imports_behind (x ∷ ps) cs b readable =
    let new = class_built cs (imports (map unplaced_import (x ∷ ps)) b) in
    spaced [] (imports [] b) (joined (map import_line (x ∷ ps)) ++ first_class_roles false cs) new
    (imports_follow (x ∷ ps) [] [] b (first_class_roles false cs) new (class_follows cs (imports (map unplaced_import (x ∷ ps)) b) readable))

head_by : (p : Option KPackage) (ps : List KImport) (cs : List KClass) → first_readable cs ≡ true
    → Der (start f.FileHead) empty (letters (begun_tokens (tokens gap.Plain ((package_part p ++ imports_part (is_absent p) ps) ++ first_class_roles (is_headless p ps) cs)))) (head_built p ps cs)
unfolding tokens written letters
head_by (Some x) ps cs readable =
    let z = imports_part false ps ++ first_class_roles false cs in
    subst (λ u. Der (start f.FileHead) empty (letters (begun_tokens (tokens gap.Plain u))) (head_built (Some x) ps cs))
    (sym (append_assoc (package_line x ++ line []) (imports_part false ps) (first_class_roles false cs) ∙ append_assoc (package_line x) (line []) z))
    (package_read x [] empty z (head_built (Some x) ps cs) (imports_behind ps cs (pack (Some (unplaced_package x)) empty) readable))
head_by None (x ∷ ps) cs readable =
    let c = first_class_roles false cs in
    let j = joined (map import_line ps) in
    subst (λ u. Der (start f.FileHead) empty (letters (begun_tokens (tokens gap.Plain u))) (head_built None (x ∷ ps) cs))
    (sym (append_assoc (import_line x) j c))
    (way w.FileBare (act (acts_NoPackage empty) (act (acts_NoImports (pack None empty))
    (import_read x [] [] (pack None empty) (j ++ c) (head_built None (x ∷ ps) cs)
    (imports_follow ps (import_made x ∷ []) [] (pack None empty) c (head_built None (x ∷ ps) cs) (class_follows cs (imports (map unplaced_import (x ∷ ps)) (pack None empty)) readable))))))
head_by None [] [] readable = way w.FileBare (act (acts_NoPackage empty) (act (acts_NoImports (pack None empty)) (way w.LinesEnd (done (imports [] (pack None empty))))))
head_by None [] (x ∷ cs) readable =
    subst (λ u. Der (start f.FileHead) empty (letters u) (head_built None [] (x ∷ cs))) (sym (begun_class x))
    (way w.FileBare (act (acts_NoPackage empty) (act (acts_NoImports (pack None empty)) (only_class x (imports [] (pack None empty)) readable))))

head_holds : (cs : List KClass) (ps : List KImport) (p : Option KPackage) → head_of (class_built cs (imports ps (pack p empty))) ≡ Some (record { package_line = p; imports = ps; first_class = first_tree cs })
unfolding empty last_imports last_package last_class with_imports with_package with_class
head_holds [] ps p = refl
head_holds (x ∷ cs) ps p = refl

pub head_spelled : (x : KFile) → first_readable x.classes ≡ true → SpellsHead (head_tree x) (begun_tokens (tokens gap.Plain (head_roles x)))
unfolding head_roles
head_spelled x readable =
    let d = head_by x.package x.imports x.classes readable in
    record {
      built = head_built x.package x.imports x.classes;
      makes = record { steps = d.steps; derives = d.derives };
      holds = head_holds x.classes (map unplaced_import x.imports) (option_map unplaced_package x.package);
    }
