-- Parts of a text that are cut into their tokens wherever they stand, as long as no letter, digit, `_` or `=` stands behind them.
use Rattle.std.proofs.Common.{◌≡◌, ℕ, Bool, true, false, not, List, [], ◌∷◌, ◌++◌, map, Option, Some, None, refl, ap, sym, subst, ◌∙◌, append_assoc}
use Rattle.std.specs.Prelude.{◌&&◌, if◌then◌else◌}
use Rattle.kotlin_tree.specs.declared.tokens.Mark.TheVariants as m
use Rattle.kotlin_tree.specs.declared.tokens.Keyword.{Keyword}
use Rattle.kotlin_tree.specs.declared.tokens.Word.{Word}
use Rattle.kotlin_tree.specs.declared.places.Position.{Position}
use Rattle.kotlin_tree.specs.declared.types.KDotted.{KDotted}
use Rattle.kotlin_tree.specs.declared.types.KQualified.{KQualified}
use Rattle.kotlin_tree.specs.declared.types.KTypeArguments.{KTypeArguments}
use Rattle.kotlin_tree.specs.declared.types.KType.{KType, roll-KType, map-KType, fold-roll-KType, ind-KType}
use Rattle.kotlin_tree.specs.declared.types.KType.TheOpen.{KType-F}
use Rattle.kotlin_lexer.specs.Nesting.{Open, is_listed}
use Rattle.kotlin_lexer.specs.declared.nesting.Form.TheVariants as f
use Rattle.kotlin_layout.specs.declared.glyphs.Glyph.TheVariants as g
use Rattle.kotlin_layout.specs.Roles.{Role, Roles, fixed, name, more_roles, listed, comma, next, joined, lines, opened, closed, block}
use Rattle.kotlin_layout.specs.Names.{is_quoted}
use Rattle.kotlin_lexed_text.specs.Lexable.{front, is_other, ends_word, ends_mark, is_lexable}
use Rattle.kotlin_layout.specs.Shown.{dotted_roles, qualified_roles, if_there, in_angles, type_by, type_roles, type_arguments_roles, in_round, headed, comment_roles}

pub both : (b c : Bool) → (b && c) ≡ true → (b ≡ true) × (c ≡ true)
both true c is = (refl, is)
both false c is = absurd (cc is)

pub and_true : (v w : Bool) → v ≡ true → w ≡ true → (v && w) ≡ true
and_true v w h i = ap (λ z. z && w) h ∙ i

-- what may stand behind any part
abbrev pub calm : Option ℕ → Bool
calm b = ends_word b && is_other 61 b

abbrev pub Calm : Roles → Type 0
Calm R = (zs : Roles) → calm (front (R ++ zs)) ≡ true

pub record Flows (R : Roles) : Type 0 where
  pub goes : (o : Open) (zs : Roles) → calm (front zs) ≡ true → is_lexable o zs ≡ true → is_lexable o (R ++ zs) ≡ true

-- with line ends, which count where no parentheses are open
pub record Stands (R : Roles) : Type 0 where
  pub goes : (o : Open) (zs : Roles) → is_listed o ≡ false → calm (front zs) ≡ true → is_lexable o zs ≡ true → is_lexable o (R ++ zs) ≡ true

pub flowing : (R : Roles) → Flows R → Stands R
flowing R x = record { goes = λ o zs free c h. x.goes o zs c h }

pub behind : (o : Open) (A B zs : Roles) → is_lexable o (A ++ (B ++ zs)) ≡ true → is_lexable o ((A ++ B) ++ zs) ≡ true
behind o A B zs h = ap (is_lexable o) (append_assoc A B zs) ∙ h

pub seq : (A B : Roles) → Flows A → Calm B → Flows B → Flows (A ++ B)
seq A B x c y = record { goes = λ o zs e h. behind o A B zs (x.goes o (B ++ zs) (c zs) (y.goes o zs e h)) }

pub seqs : (A B : Roles) → Stands A → Calm B → Stands B → Stands (A ++ B)
seqs A B x c y = record { goes = λ o zs free e h. behind o A B zs (x.goes o (B ++ zs) free (c zs) (y.goes o zs free e h)) }

-- ---- names and words

name_by : (v : Bool) (b : Option ℕ) (more : Bool) → ends_word b ≡ true → more ≡ true → ((if v then true else ends_word b) && more) ≡ true
name_by true b more e h = h
name_by false b more e h = and_true (ends_word b) more e h

pub name_goes : (n : List ℕ) (o : Open) (zs : Roles) → ends_word (front zs) ≡ true → is_lexable o zs ≡ true → is_lexable o (Role.Name n ∷ zs) ≡ true
unfolding is_lexable
name_goes n o zs e h = name_by (is_quoted n) (front zs) (is_lexable o zs) e h

pub name_flows : (n : List ℕ) → Flows (name n)
name_flows n = record { goes = λ o zs c h. name_goes n o zs (both (ends_word (front zs)) (is_other 61 (front zs)) c).0 h }

-- ---- marks in pairs

pub in_round_flows : (X : Roles) → Flows X → Flows (in_round X)
unfolding is_lexable front ends_mark
in_round_flows X x = record { goes = λ o zs c h. behind (f.Round ∷ o) X (fixed (g.Mark m.CloseRound ∷ [])) zs (x.goes (f.Round ∷ o) (Role.Fixed (g.Mark m.CloseRound) ∷ zs) refl h) }

pub in_round_none : Flows (in_round [])
unfolding is_lexable front ends_mark
in_round_none = record { goes = λ o zs c h. h }

pub in_square_flows : (X : Roles) → Flows X → Flows ((fixed (g.Mark m.OpenSquare ∷ []) ++ X) ++ fixed (g.Mark m.CloseSquare ∷ []))
unfolding is_lexable front ends_mark
in_square_flows X x = record { goes = λ o zs c h. behind (f.Square ∷ o) X (fixed (g.Mark m.CloseSquare ∷ [])) zs (x.goes (f.Square ∷ o) (Role.Fixed (g.Mark m.CloseSquare) ∷ zs) refl h) }

pub keyword_headed : (x : Keyword) (X : Roles) → Flows X → Flows (headed (g.Keyword x) X)
unfolding is_lexable front ends_mark
keyword_headed x X y = record { goes = λ o zs c h. behind (f.Round ∷ o) X (fixed (g.Mark m.CloseRound ∷ [])) zs (y.goes (f.Round ∷ o) (Role.Fixed (g.Mark m.CloseRound) ∷ zs) refl h) }

pub word_headed : (x : Word) (X : Roles) → Flows X → Flows (headed (g.Word x) X)
unfolding is_lexable front ends_mark
word_headed x X y = record { goes = λ o zs c h. behind (f.Round ∷ o) X (fixed (g.Mark m.CloseRound ∷ [])) zs (y.goes (f.Round ∷ o) (Role.Fixed (g.Mark m.CloseRound) ∷ zs) refl h) }

-- what stands in braces on lines of its own
pub braced_flows : (X : Roles) → Stands X → Flows ((fixed opened ++ X) ++ fixed closed)
unfolding is_lexable front ends_mark
braced_flows X x = record { goes = λ o zs c h. behind (f.Curly ∷ o) X (fixed closed) zs (x.goes (f.Curly ∷ o) (fixed closed ++ zs) refl refl h) }

-- ---- lists

abbrev pub AllFlow : List Roles → Type 0
AllFlow [] = Unit {0}
AllFlow (x ∷ xs) = Flows x × AllFlow xs

abbrev pub AllStand : List Roles → Type 0
AllStand [] = Unit {0}
AllStand (x ∷ xs) = Stands x × AllStand xs

comma_calm : (ps : List Roles) (zs : Roles) → calm (front zs) ≡ true → calm (front (more_roles comma ps ++ zs)) ≡ true
unfolding front
comma_calm [] zs c = c
comma_calm (p ∷ ps) zs c = refl

comma_more : (ps : List Roles) (o : Open) (zs : Roles) → AllFlow ps → calm (front zs) ≡ true → is_lexable o zs ≡ true → is_lexable o (more_roles comma ps ++ zs) ≡ true
unfolding is_lexable front ends_mark
comma_more [] o zs all c h = h
comma_more (p ∷ ps) o zs all c h = behind o p (more_roles comma ps) zs (all.0.goes o (more_roles comma ps ++ zs) (comma_calm ps zs c) (comma_more ps o zs all.1 c h))

pub comma_flows : (ps : List Roles) → AllFlow ps → Flows (listed comma ps)
comma_flows [] all = record { goes = λ o zs c h. h }
comma_flows (p ∷ ps) all = record { goes = λ o zs c h. behind o p (more_roles comma ps) zs (all.0.goes o (more_roles comma ps ++ zs) (comma_calm ps zs c) (comma_more ps o zs all.1 c h)) }

next_calm : (ps : List Roles) (zs : Roles) → calm (front zs) ≡ true → calm (front (more_roles next ps ++ zs)) ≡ true
unfolding front
next_calm [] zs c = c
next_calm (p ∷ ps) zs c = refl

next_more : (ps : List Roles) (o : Open) (zs : Roles) → AllStand ps → is_listed o ≡ false → calm (front zs) ≡ true → is_lexable o zs ≡ true → is_lexable o (more_roles next ps ++ zs) ≡ true
unfolding is_lexable front
next_more [] o zs all free c h = h
next_more (p ∷ ps) o zs all free c h = behind o p (more_roles next ps) zs (all.0.goes o (more_roles next ps ++ zs) free (next_calm ps zs c) (next_more ps o zs all.1 free c h))

pub next_stands : (ps : List Roles) → AllStand ps → Stands (listed next ps)
next_stands [] all = record { goes = λ o zs free c h. h }
next_stands (p ∷ ps) all = record { goes = λ o zs free c h. behind o p (more_roles next ps) zs (all.0.goes o (more_roles next ps ++ zs) free (next_calm ps zs c) (next_more ps o zs all.1 free c h)) }

lines_calm : (ps : List Roles) (zs : Roles) → calm (front zs) ≡ true → calm (front (lines ps ++ zs)) ≡ true
unfolding front
lines_calm [] zs c = c
lines_calm (p ∷ ps) zs c = refl

line_by : (v more : Bool) → v ≡ false → more ≡ true → (not v && more) ≡ true
line_by true more e h = absurd (cc e)
line_by false more e h = h

pub line_goes : (o : Open) (zs : Roles) → is_listed o ≡ false → is_lexable o zs ≡ true → is_lexable o (Role.Fixed g.Line ∷ zs) ≡ true
unfolding is_lexable
line_goes o zs free h = line_by (is_listed o) (is_lexable o zs) free h

lines_go : (ps : List Roles) (o : Open) (zs : Roles) → AllStand ps → is_listed o ≡ false → calm (front zs) ≡ true → is_lexable o zs ≡ true → is_lexable o (lines ps ++ zs) ≡ true
lines_go [] o zs all free c h = h
lines_go (p ∷ ps) o zs all free c h =
    line_goes o ((p ++ lines ps) ++ zs) free (behind o p (lines ps) zs (all.0.goes o (lines ps ++ zs) free (lines_calm ps zs c) (lines_go ps o zs all.1 free c h)))

pub lines_stand : (ps : List Roles) → AllStand ps → Stands (lines ps)
lines_stand ps all = record { goes = λ o zs free c h. lines_go ps o zs all free c h }

pub block_flows : (ps : List Roles) → AllStand ps → Flows (block ps)
block_flows ps all = braced_flows (lines ps) (lines_stand ps all)

pub block_calm : (ps : List Roles) → Calm (block ps)
unfolding front
block_calm ps zs = refl

pub comment_go : (cs : List (List ℕ)) (o : Open) (zs : Roles) → is_listed o ≡ false → is_lexable o zs ≡ true → is_lexable o (comment_roles cs ++ zs) ≡ true
unfolding is_lexable front
comment_go [] o zs free h = h
comment_go (c ∷ cs) o zs free h = line_goes o (comment_roles cs ++ zs) free (comment_go cs o zs free h)

-- comments, whatever stands behind them
pub commented_goes : (cs : List (List ℕ)) (R : Roles) (o : Open) (zs : Roles) → is_listed o ≡ false → is_lexable o (R ++ zs) ≡ true → is_lexable o ((comment_roles cs ++ R) ++ zs) ≡ true
commented_goes cs R o zs free h = behind o (comment_roles cs) R zs (comment_go cs o (R ++ zs) free h)

-- ---- types

dots_calm : (xs : List KDotted) (zs : Roles) → calm (front zs) ≡ true → calm (front (joined (map dotted_roles xs) ++ zs)) ≡ true
unfolding front
dots_calm [] zs c = c
dots_calm (x ∷ xs) zs c = refl

dots_go : (xs : List KDotted) (o : Open) (zs : Roles) → calm (front zs) ≡ true → is_lexable o zs ≡ true → is_lexable o (joined (map dotted_roles xs) ++ zs) ≡ true
unfolding is_lexable front ends_mark
dots_go [] o zs c h = h
dots_go (x ∷ xs) o zs c h =
    let z = joined (map dotted_roles xs) ++ zs in
    name_goes x.name.name o z (both (ends_word (front z)) (is_other 61 (front z)) (dots_calm xs zs c)).0 (dots_go xs o zs c h)

pub qualified_flows : (x : KQualified) → Flows (qualified_roles x)
qualified_flows x = record {
  goes = λ o zs c h.
      let z = joined (map dotted_roles x.rest) ++ zs in
      name_goes x.first.name o z (both (ends_word (front z)) (is_other 61 (front z)) (dots_calm x.rest zs c)).0 (dots_go x.rest o zs c h);
}

asked_calm : (x : Option Position) (zs : Roles) → calm (front zs) ≡ true → calm (front (if_there x (g.Mark m.Question ∷ []) ++ zs)) ≡ true
unfolding front
asked_calm None zs c = c
asked_calm (Some x) zs c = refl

asked_go : (x : Option Position) (o : Open) (zs : Roles) → is_lexable o zs ≡ true → is_lexable o (if_there x (g.Mark m.Question ∷ []) ++ zs) ≡ true
unfolding is_lexable front ends_mark
asked_go None o zs h = h
asked_go (Some x) o zs h = h

-- behind a part where nothing need be calm but what stands behind both
asked_flows : (A : Roles) (x : Option Position) → Flows A → Flows (A ++ if_there x (g.Mark m.Question ∷ []))
asked_flows A x a = record {
  goes = λ o zs c h.
      behind o A (if_there x (g.Mark m.Question ∷ [])) zs (a.goes o (if_there x (g.Mark m.Question ∷ []) ++ zs) (asked_calm x zs c) (asked_go x o zs h));
}

-- begins with no `=`
abbrev pub Opens : Roles → Type 0
Opens R = (zs : Roles) → is_other 61 (front (R ++ zs)) ≡ true

abbrev pub AllOpen : List Roles → Type 0
AllOpen [] = Unit {0}
AllOpen (x ∷ xs) = Opens x × AllOpen xs

greater_go : (o : Open) (zs : Roles) → calm (front zs) ≡ true → is_lexable o zs ≡ true → is_lexable o (Role.Fixed (g.Mark m.Greater) ∷ zs) ≡ true
unfolding is_lexable ends_mark
greater_go o zs c h = and_true (is_other 61 (front zs)) (is_lexable o zs) (both (ends_word (front zs)) (is_other 61 (front zs)) c).1 h

angles_by : (b : Option ℕ) (more : Bool) → is_other 61 b ≡ true → more ≡ true → (is_other 61 b && more) ≡ true
angles_by b more e h = and_true (is_other 61 b) more e h

pub angles_flows : (ps : List Roles) → AllFlow ps → ((zs : Roles) → is_other 61 (front (listed comma ps ++ (Role.Fixed (g.Mark m.Greater) ∷ zs))) ≡ true) → Flows (in_angles ps)
unfolding is_lexable front ends_mark
angles_flows ps all begins = record {
  goes = λ o zs c h.
      let z = Role.Fixed (g.Mark m.Greater) ∷ zs in
      let e : front ((listed comma ps ++ fixed (g.Mark m.Greater ∷ [])) ++ zs) ≡ front (listed comma ps ++ z) = ap front (append_assoc (listed comma ps) (fixed (g.Mark m.Greater ∷ [])) zs) in
      angles_by (front ((listed comma ps ++ fixed (g.Mark m.Greater ∷ [])) ++ zs)) (is_lexable o ((listed comma ps ++ fixed (g.Mark m.Greater ∷ [])) ++ zs)) (ap (is_other 61) e ∙ begins zs)
      (behind o (listed comma ps) (fixed (g.Mark m.Greater ∷ [])) zs ((comma_flows ps all).goes o z refl (greater_go o zs c h)));
}

pub angles_calm : (ps : List Roles) → Calm (in_angles ps)
unfolding front
angles_calm ps zs = refl

quoted_first : (v : Bool) → is_other 61 (Some (if v then 96 else 95)) ≡ true
quoted_first true = refl
quoted_first false = refl

pub name_opens : (n : List ℕ) (zs : Roles) → is_other 61 (front (Role.Name n ∷ zs)) ≡ true
unfolding front
name_opens n zs = quoted_first (is_quoted n)

pub list_opens : (ps : List Roles) → AllOpen ps → (zs : Roles) → is_other 61 (front (listed comma ps ++ (Role.Fixed (g.Mark m.Greater) ∷ zs))) ≡ true
unfolding front
list_opens [] all zs = refl
list_opens (p ∷ ps) all zs = ap (λ z. is_other 61 (front z)) (append_assoc p (more_roles comma ps) (Role.Fixed (g.Mark m.Greater) ∷ zs)) ∙ all.0 (more_roles comma ps ++ (Role.Fixed (g.Mark m.Greater) ∷ zs))

-- may stand behind each operator that stands before its operand
abbrev pub safe : Option ℕ → Bool
safe b = (is_other 33 b && is_other 61 b) && ((is_other 43 b && is_other 62 b) && is_other 45 b)

abbrev pub Safe : Roles → Type 0
Safe R = (zs : Roles) → safe (front (R ++ zs)) ≡ true

pub quoted_safe : (v : Bool) → safe (Some (if v then 96 else 95)) ≡ true
quoted_safe true = refl
quoted_safe false = refl

pub record Typed (x : KType) : Type 0 where
  pub flows : Flows (type_roles x)
  pub opens : Opens (type_roles x)
  pub safe : Safe (type_roles x)

abbrev Y : Type 0
Y = (x : KType) × Typed x

all_flow : (xs : List Y) → AllFlow (map type_roles (map (λ (x : Y). x.0) xs))
all_flow [] = tt
all_flow (x ∷ xs) = (x.1.flows, all_flow xs)

all_open : (xs : List Y) → AllOpen (map type_roles (map (λ (x : Y). x.0) xs))
all_open [] = tt
all_open (x ∷ xs) = (x.1.opens, all_open xs)

abbrev layer : KType-F Y → KType-F Roles
layer z = map-KType KType Roles type_roles (map-KType Y KType (λ x. x.0) z)

layer_flows : (z : KType-F Y) → Flows (type_by (layer z))
layer_flows (KType-F.Plain x question variable) = asked_flows (qualified_roles x) question (qualified_flows x)
layer_flows (KType-F.Applied x angles arguments commas question) =
    let ps = map type_roles (map (λ (x : Y). x.0) arguments) in
    asked_flows (qualified_roles x ++ in_angles ps) question
    (seq (qualified_roles x) (in_angles ps) (qualified_flows x) (angles_calm ps) (angles_flows ps (all_flow arguments) (list_opens ps (all_open arguments))))

layer_opens : (z : KType-F Y) → Opens (type_by (layer z))
unfolding front
layer_opens (KType-F.Plain x question variable) zs = quoted_first (is_quoted x.first.name)
layer_opens (KType-F.Applied x angles arguments commas question) zs = quoted_first (is_quoted x.first.name)

layer_safe : (z : KType-F Y) → Safe (type_by (layer z))
unfolding front
layer_safe (KType-F.Plain x question variable) zs = quoted_safe (is_quoted x.first.name)
layer_safe (KType-F.Applied x angles arguments commas question) zs = quoted_safe (is_quoted x.first.name)

type_rolled : (x : KType-F KType) → type_roles (roll-KType x) ≡ type_by (map-KType KType Roles type_roles x)
unfolding type_roles
type_rolled x = fold-roll-KType Roles type_by x

typed_layer : (z : KType-F Y) → Typed (roll-KType (map-KType Y KType (λ x. x.0) z))
typed_layer z =
    let e = sym (type_rolled (map-KType Y KType (λ x. x.0) z)) in
    record { flows = subst Flows e (layer_flows z); opens = subst Opens e (layer_opens z); safe = subst Safe e (layer_safe z) }

pub typed : (x : KType) → Typed x
typed = ind-KType Typed (λ x z is. subst (λ (u : KType-F KType). Typed (roll-KType u)) is (typed_layer z))

pub types_flow : (xs : List KType) → AllFlow (map type_roles xs)
types_flow [] = tt
types_flow (x ∷ xs) = ((typed x).flows, types_flow xs)

types_open : (xs : List KType) → AllOpen (map type_roles xs)
types_open [] = tt
types_open (x ∷ xs) = ((typed x).opens, types_open xs)

pub arguments_flow : (x : KTypeArguments) → Flows (type_arguments_roles (Some x))
arguments_flow x = angles_flows (map type_roles x.items) (types_flow x.items) (list_opens (map type_roles x.items) (types_open x.items))

pub arguments_calm : (x : KTypeArguments) → Calm (type_arguments_roles (Some x))
arguments_calm x = angles_calm (map type_roles x.items)
