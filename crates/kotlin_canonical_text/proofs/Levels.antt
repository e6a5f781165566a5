-- Levels of expressions, and what may stand behind an expression.
use Rattle.std.proofs.Common.{◌≡◌, ℕ, suc, Bool, true, false, [], ◌∷◌, ◌++◌, refl, ap, sym, subst, ◌∙◌}
use Rattle.std.specs.Prelude.{if◌then◌else◌, ◌&&◌, not, nat_lt}
use Rattle.grammar.specs.declared.symbols.Symbol.TheVariants as y
use Rattle.kotlin_tree.specs.declared.tokens.Gap.{Gap}
use Rattle.kotlin_tree.specs.declared.tokens.Gap.TheVariants as gap
use Rattle.kotlin_tree.specs.declared.expressions.KExpr.{KExpr}
use Rattle.kotlin_tree.specs.declared.expressions.KExpr.TheVariants as e
use Rattle.kotlin_layout.specs.declared.parens.Place.{Place}
use Rattle.kotlin_layout.specs.declared.parens.Neighbor.{Neighbor}
use Rattle.kotlin_layout.specs.declared.parens.Neighbor.TheVariants as beside
use Rattle.kotlin_layout.specs.Roles.{Roles}
use Rattle.kotlin_grammar.specs.declared.letters.Kind.{Kind}
use Rattle.kotlin_grammar.specs.declared.letters.Kind.TheVariants as k
use Rattle.kotlin_grammar.specs.declared.letters.Form.{Form}
use Rattle.kotlin_grammar.specs.declared.letters.Form.TheVariants as f
use Rattle.kotlin_grammar.specs.declared.letters.Way.TheVariants as w
use Rattle.kotlin_grammar.specs.declared.built.Built.{Built}
use Rattle.kotlin_grammar.specs.declared.ahead.Letter.{Letter}
use Rattle.kotlin_grammar.specs.declared.ahead.Spot.TheVariants as at
use Rattle.kotlin_grammar.specs.declared.ahead.Step.TheVariants as st
use Rattle.kotlin_grammar.specs.Table.{Symbols, written}
use Rattle.kotlin_grammar.specs.Ahead.{Letters, stands, is_less, is_at, is_curly, is_plain, arguments_ahead, arguments_follow, goes_on, opens, step, is_semicolon, with_gap}
use Rattle.kotlin_canonical_text.specs.Canonical.{may_be_less}
use Rattle.kotlin_canonical_text.proofs.Names.{L, Free}
use Rattle.kotlin_canonical_text.proofs.Firsts.{First, Stops, starts}
use Rattle.kotlin_canonical_text.proofs.Types.{Tight}
use Rattle.kotlin_canonical_text.proofs.Steps.{Der, way, act, Fits}
use Rattle.kotlin_canonical_text.proofs.Acts.{expr, stmt, acts_Expression}

-- ---- what stands behind an expression at a place

abbrev pub is_greater_neighbor : Neighbor → Bool
is_greater_neighbor beside.Greater = true
is_greater_neighbor _ = false

-- whether a comparison by `<` may stand at a place as it is
abbrev pub may_compare : Place → Bool
may_compare p = if p.in_list then false else (if nat_lt p.level 5 then (if nat_lt 0 p.level then not (is_greater_neighbor p.neighbor) else true) else false)

pub record After (p : Place) (ls : Letters) : Type 0 where
  pub free : Free ls
  pub calm : stands is_curly ls ≡ false
  pub plain : may_be_less p ≡ false → stands is_less ls ≡ false
  pub stops : may_compare p ≡ true → Stops ls

-- where no `<` stands behind it, neither does `@`
pub tight_after : (p : Place) (r : Roles) → After p (L gap.Plain r) → may_be_less p ≡ false → Tight r
tight_after p r after is =
    let less = after.plain is in
    (less, sym (ap (λ z. if z then arguments_ahead (L gap.Plain r) else stands is_at (L gap.Plain r)) less) ∙ after.free)

-- kinds that mean nothing to a name or a type before them
unfoldable pub quiet : Kind → Bool
quiet k.Less = false
quiet k.At = false
quiet k.OpenCurly = false
quiet k.OpenParameters = false
quiet k.Dot = false
quiet k.Question = false
quiet k.Comma = false
quiet k.Greater = false
quiet _ = true

quiet_less : (c : Kind) → quiet c ≡ true → is_less c ≡ false
unfolding quiet
quiet_less k.Less h = absurd (cc h)
quiet_less _ h = refl

quiet_at : (c : Kind) → quiet c ≡ true → is_at c ≡ false
unfolding quiet
quiet_at k.At h = absurd (cc h)
quiet_at _ h = refl

quiet_curly : (c : Kind) → quiet c ≡ true → is_curly c ≡ false
unfolding quiet
quiet_curly k.OpenCurly h = absurd (cc h)
quiet_curly k.OpenParameters h = absurd (cc h)
quiet_curly _ h = refl

quiet_step : (c : Kind) → quiet c ≡ true → step at.Name c ≡ st.Out
unfolding quiet
quiet_step k.Dot h = absurd (cc h)
quiet_step k.Less h = absurd (cc h)
quiet_step k.Question h = absurd (cc h)
quiet_step k.Comma h = absurd (cc h)
quiet_step k.Greater h = absurd (cc h)
quiet_step _ h = refl

starts_quiet : (c : Kind) → starts c ≡ true → quiet c ≡ true
unfolding quiet starts
starts_quiet k.Less h = absurd (cc h)
starts_quiet k.At h = absurd (cc h)
starts_quiet k.OpenCurly h = absurd (cc h)
starts_quiet k.OpenParameters h = absurd (cc h)
starts_quiet k.Dot h = absurd (cc h)
starts_quiet k.Question h = absurd (cc h)
starts_quiet k.Comma h = absurd (cc h)
starts_quiet k.Greater h = absurd (cc h)
starts_quiet _ h = refl

and_no : (b c : Bool) → c ≡ false → (b && c) ≡ false
and_no true c is = is
and_no false c is = refl

semicolon_no : (h : Gap) (b : Bool) → b ≡ false → (if is_semicolon h then false else b) ≡ false
semicolon_no gap.Plain b is = is
semicolon_no gap.Line b is = is
semicolon_no gap.Semicolon b is = refl

stops_by : (l : Letter) (ls : Letters) → quiet l.kind ≡ true → Stops (l ∷ ls)
unfolding arguments_follow
stops_by l ls is n = semicolon_no l.token.gap (goes_on (step at.Name l.kind) n (λ p i. arguments_follow p i ls) (opens ls)) (ap (λ z. goes_on z n (λ p i. arguments_follow p i ls) (opens ls)) (quiet_step l.kind is))

pub after_letter : (p : Place) (l : Letter) (ls : Letters) → quiet l.kind ≡ true → After p (l ∷ ls)
after_letter p l ls is = record {
  free =
      ap (λ z. if z then arguments_ahead (l ∷ ls) else stands is_at (l ∷ ls)) (and_no (is_plain l.token.gap) (is_less l.kind) (quiet_less l.kind is))
      ∙ and_no (is_plain l.token.gap) (is_at l.kind) (quiet_at l.kind is);
  calm = and_no (is_plain l.token.gap) (is_curly l.kind) (quiet_curly l.kind is);
  plain = λ h. and_no (is_plain l.token.gap) (is_less l.kind) (quiet_less l.kind is);
  stops = λ h. stops_by l ls is;
}

-- a part that begins, on this line or on the next
pub after_first : (p : Place) (h : Gap) (xs r : Roles) → First xs r → After p (L h (xs ++ r))
after_first p h xs r f = subst (After p) (sym (f.is h)) (after_letter p (record { kind = f.kind; token = with_gap h f.front }) f.more (starts_quiet f.kind f.ok))

pub after_nothing : (p : Place) → After p []
unfolding arguments_follow
after_nothing p = record { free = refl; calm = refl; plain = λ h. refl; stops = λ h n. refl }

-- ---- levels

pub data Level : Type 0 where
  Or : Level
  And : Level
  Equality : Level
  Comparison : Level
  Is : Level
  Infix : Level
  Sum : Level
  Product : Level
  Cast : Level
  Pre : Level
  Post : Level

-- as places count them
abbrev pub number : Level → ℕ
number Level.Or = 1
number Level.And = 2
number Level.Equality = 3
number Level.Comparison = 4
number Level.Is = 5
number Level.Infix = 6
number Level.Sum = 7
number Level.Product = 8
number Level.Cast = 9
number Level.Pre = 10
number Level.Post = 11

-- in an expression, or first in a statement
pub data Front : Type 0 where
  Inner : Front
  Outer : Front

-- what may go on at this level and at tighter ones, tightest first
abbrev pub above : Level → Symbols → Symbols
above Level.Or s = y.Form f.CastTail ∷ y.Form f.ProductTail ∷ y.Form f.SumTail ∷ y.Form f.InfixTail ∷ y.Form f.IsTail ∷ y.Form f.CompareTail ∷ y.Form f.EqualTail ∷ y.Form f.AndTail ∷ y.Form f.OrTail ∷ s
above Level.And s = y.Form f.CastTail ∷ y.Form f.ProductTail ∷ y.Form f.SumTail ∷ y.Form f.InfixTail ∷ y.Form f.IsTail ∷ y.Form f.CompareTail ∷ y.Form f.EqualTail ∷ y.Form f.AndTail ∷ s
above Level.Equality s = y.Form f.CastTail ∷ y.Form f.ProductTail ∷ y.Form f.SumTail ∷ y.Form f.InfixTail ∷ y.Form f.IsTail ∷ y.Form f.CompareTail ∷ y.Form f.EqualTail ∷ s
above Level.Comparison s = y.Form f.CastTail ∷ y.Form f.ProductTail ∷ y.Form f.SumTail ∷ y.Form f.InfixTail ∷ y.Form f.IsTail ∷ y.Form f.CompareTail ∷ s
above Level.Is s = y.Form f.CastTail ∷ y.Form f.ProductTail ∷ y.Form f.SumTail ∷ y.Form f.InfixTail ∷ y.Form f.IsTail ∷ s
above Level.Infix s = y.Form f.CastTail ∷ y.Form f.ProductTail ∷ y.Form f.SumTail ∷ y.Form f.InfixTail ∷ s
above Level.Sum s = y.Form f.CastTail ∷ y.Form f.ProductTail ∷ y.Form f.SumTail ∷ s
above Level.Product s = y.Form f.CastTail ∷ y.Form f.ProductTail ∷ s
above Level.Cast s = y.Form f.CastTail ∷ s
above Level.Pre s = s
above Level.Post s = s

-- at looser ones
abbrev pub below : Level → Symbols → Symbols
below Level.Or s = s
below Level.And s = y.Form f.OrTail ∷ s
below Level.Equality s = y.Form f.AndTail ∷ y.Form f.OrTail ∷ s
below Level.Comparison s = y.Form f.EqualTail ∷ y.Form f.AndTail ∷ y.Form f.OrTail ∷ s
below Level.Is s = y.Form f.CompareTail ∷ y.Form f.EqualTail ∷ y.Form f.AndTail ∷ y.Form f.OrTail ∷ s
below Level.Infix s = y.Form f.IsTail ∷ y.Form f.CompareTail ∷ y.Form f.EqualTail ∷ y.Form f.AndTail ∷ y.Form f.OrTail ∷ s
below Level.Sum s = y.Form f.InfixTail ∷ y.Form f.IsTail ∷ y.Form f.CompareTail ∷ y.Form f.EqualTail ∷ y.Form f.AndTail ∷ y.Form f.OrTail ∷ s
below Level.Product s = y.Form f.SumTail ∷ y.Form f.InfixTail ∷ y.Form f.IsTail ∷ y.Form f.CompareTail ∷ y.Form f.EqualTail ∷ y.Form f.AndTail ∷ y.Form f.OrTail ∷ s
below Level.Cast s = y.Form f.ProductTail ∷ y.Form f.SumTail ∷ y.Form f.InfixTail ∷ y.Form f.IsTail ∷ y.Form f.CompareTail ∷ y.Form f.EqualTail ∷ y.Form f.AndTail ∷ y.Form f.OrTail ∷ s
below Level.Pre s = y.Form f.CastTail ∷ y.Form f.ProductTail ∷ y.Form f.SumTail ∷ y.Form f.InfixTail ∷ y.Form f.IsTail ∷ y.Form f.CompareTail ∷ y.Form f.EqualTail ∷ y.Form f.AndTail ∷ y.Form f.OrTail ∷ s
below Level.Post s = y.Form f.CastTail ∷ y.Form f.ProductTail ∷ y.Form f.SumTail ∷ y.Form f.InfixTail ∷ y.Form f.IsTail ∷ y.Form f.CompareTail ∷ y.Form f.EqualTail ∷ y.Form f.AndTail ∷ y.Form f.OrTail ∷ s

abbrev pub top : Front → Level → Symbols → Symbols
top Front.Inner l s = y.Form f.Prefixed ∷ above l s
top Front.Outer l s = y.Form f.Statement ∷ s

abbrev pub left : Front → Level → Symbols → Symbols
left Front.Inner l s = s
left Front.Outer Level.Post s = y.Form f.Tails ∷ s
left Front.Outer Level.Pre s = y.Form f.Tails ∷ s
left Front.Outer l s = below l (y.Form f.Store ∷ s)

abbrev pub pending : Level → Symbols → Symbols
pending Level.Or s = y.Form f.OrTail ∷ s
pending Level.And s = y.Form f.AndTail ∷ s
pending Level.Equality s = y.Form f.EqualTail ∷ s
pending Level.Comparison s = y.Form f.CompareTail ∷ s
pending Level.Is s = y.Form f.IsTail ∷ s
pending Level.Infix s = y.Form f.InfixTail ∷ s
pending Level.Sum s = y.Form f.SumTail ∷ s
pending Level.Product s = y.Form f.ProductTail ∷ s
pending Level.Cast s = y.Form f.CastTail ∷ s
pending Level.Pre s = s
pending Level.Post s = y.Form f.Suffixes ∷ s

-- These are the expression, as the first operand of a level.
abbrev pub Written : Place → Level → ℕ → KExpr → Roles → Type 0
Written p l d x xs = (front : Front) (s : Symbols) (b : Built) (r : Roles) (new : Built) → After p (L gap.Plain r) → Der (pending l (left front l s)) (expr d x b) (L gap.Plain r) new → Der (top front l s) b (L gap.Plain (xs ++ r)) new

-- They are the expression alone.
abbrev pub Whole : Place → ℕ → KExpr → Roles → Type 0
Whole p d x xs = (s : Symbols) (b : Built) (r : Roles) (new : Built) → After p (L gap.Plain r) → Der s (expr d x b) (L gap.Plain r) new → Der (y.Form f.Expr ∷ s) b (L gap.Plain (xs ++ r)) new

-- They are the expression as a statement.
abbrev pub Stated : Place → ℕ → KExpr → Roles → Type 0
Stated p d x xs = (s : Symbols) (b : Built) (r : Roles) (new : Built) → After p (L gap.Plain r) → Der s (stmt (suc d) (e.Expression x) b) (L gap.Plain r) new → Der (y.Form f.Statement ∷ s) b (L gap.Plain (xs ++ r)) new

pub stop : (l : Level) {s : Symbols} {b : Built} {ls : Letters} {new : Built} → Der s b ls new → Der (pending l s) b ls new
unfolding written
stop Level.Or h = way w.OrEnd h
stop Level.And h = way w.AndEnd h
stop Level.Equality h = way w.EqualEnd h
stop Level.Comparison h = way w.CompareEnd h
stop Level.Is h = way w.IsEnd h
stop Level.Infix h = way w.InfixEnd h
stop Level.Sum h = way w.SumEnd h
stop Level.Product h = way w.ProductEnd h
stop Level.Cast h = way w.CastEnd h
stop Level.Pre h = h
stop Level.Post h = way w.SuffixesEnd h

abbrev pub form_at : Level → Form
form_at Level.Or = f.Or
form_at Level.And = f.And
form_at Level.Equality = f.Equal
form_at Level.Comparison = f.Comparison
form_at Level.Is = f.IsForm
form_at Level.Infix = f.Infix
form_at Level.Sum = f.Sum
form_at Level.Product = f.Product
form_at Level.Cast = f.Cast
form_at Level.Pre = f.Prefixed
form_at Level.Post = f.Prefixed

pub opened : (l : Level) {s : Symbols} {b : Built} {ls : Letters} {new : Built} → Der (y.Form f.Prefixed ∷ above l s) b ls new → Der (y.Form (form_at l) ∷ s) b ls new
unfolding written
opened Level.Or h = way w.OrWhole (way w.AndWhole (way w.EqualWhole (way w.CompareWhole (way w.IsWhole (way w.InfixWhole (way w.SumWhole (way w.ProductWhole (way w.CastWhole (h)))))))))
opened Level.And h = way w.AndWhole (way w.EqualWhole (way w.CompareWhole (way w.IsWhole (way w.InfixWhole (way w.SumWhole (way w.ProductWhole (way w.CastWhole (h))))))))
opened Level.Equality h = way w.EqualWhole (way w.CompareWhole (way w.IsWhole (way w.InfixWhole (way w.SumWhole (way w.ProductWhole (way w.CastWhole (h)))))))
opened Level.Comparison h = way w.CompareWhole (way w.IsWhole (way w.InfixWhole (way w.SumWhole (way w.ProductWhole (way w.CastWhole (h))))))
opened Level.Is h = way w.IsWhole (way w.InfixWhole (way w.SumWhole (way w.ProductWhole (way w.CastWhole (h)))))
opened Level.Infix h = way w.InfixWhole (way w.SumWhole (way w.ProductWhole (way w.CastWhole (h))))
opened Level.Sum h = way w.SumWhole (way w.ProductWhole (way w.CastWhole (h)))
opened Level.Product h = way w.ProductWhole (way w.CastWhole (h))
opened Level.Cast h = way w.CastWhole (h)
opened Level.Pre h = h
opened Level.Post h = h

loose_Post : (p : Place) (d : ℕ) (x : KExpr) (xs : Roles) → Written p Level.Post d x xs → Written p Level.Pre d x xs
unfolding written
loose_Post p d x xs is Front.Inner s b r new after h = is Front.Inner (s) b r new after (stop Level.Post h)
loose_Post p d x xs is Front.Outer s b r new after h = is Front.Outer s b r new after (stop Level.Post h)

loose_Pre : (p : Place) (d : ℕ) (x : KExpr) (xs : Roles) → Written p Level.Pre d x xs → Written p Level.Cast d x xs
unfolding written
loose_Pre p d x xs is Front.Inner s b r new after h = is Front.Inner (y.Form f.CastTail ∷ s) b r new after (stop Level.Pre h)
loose_Pre p d x xs is Front.Outer s b r new after h = is Front.Outer s b r new after (way w.TailsAll h)

loose_Cast : (p : Place) (d : ℕ) (x : KExpr) (xs : Roles) → Written p Level.Cast d x xs → Written p Level.Product d x xs
unfolding written
loose_Cast p d x xs is Front.Inner s b r new after h = is Front.Inner (y.Form f.ProductTail ∷ s) b r new after (stop Level.Cast h)
loose_Cast p d x xs is Front.Outer s b r new after h = is Front.Outer s b r new after (stop Level.Cast h)

loose_Product : (p : Place) (d : ℕ) (x : KExpr) (xs : Roles) → Written p Level.Product d x xs → Written p Level.Sum d x xs
unfolding written
loose_Product p d x xs is Front.Inner s b r new after h = is Front.Inner (y.Form f.SumTail ∷ s) b r new after (stop Level.Product h)
loose_Product p d x xs is Front.Outer s b r new after h = is Front.Outer s b r new after (stop Level.Product h)

loose_Sum : (p : Place) (d : ℕ) (x : KExpr) (xs : Roles) → Written p Level.Sum d x xs → Written p Level.Infix d x xs
unfolding written
loose_Sum p d x xs is Front.Inner s b r new after h = is Front.Inner (y.Form f.InfixTail ∷ s) b r new after (stop Level.Sum h)
loose_Sum p d x xs is Front.Outer s b r new after h = is Front.Outer s b r new after (stop Level.Sum h)

loose_Infix : (p : Place) (d : ℕ) (x : KExpr) (xs : Roles) → Written p Level.Infix d x xs → Written p Level.Is d x xs
unfolding written
loose_Infix p d x xs is Front.Inner s b r new after h = is Front.Inner (y.Form f.IsTail ∷ s) b r new after (stop Level.Infix h)
loose_Infix p d x xs is Front.Outer s b r new after h = is Front.Outer s b r new after (stop Level.Infix h)

loose_Is : (p : Place) (d : ℕ) (x : KExpr) (xs : Roles) → Written p Level.Is d x xs → Written p Level.Comparison d x xs
unfolding written
loose_Is p d x xs is Front.Inner s b r new after h = is Front.Inner (y.Form f.CompareTail ∷ s) b r new after (stop Level.Is h)
loose_Is p d x xs is Front.Outer s b r new after h = is Front.Outer s b r new after (stop Level.Is h)

loose_Comparison : (p : Place) (d : ℕ) (x : KExpr) (xs : Roles) → Written p Level.Comparison d x xs → Written p Level.Equality d x xs
unfolding written
loose_Comparison p d x xs is Front.Inner s b r new after h = is Front.Inner (y.Form f.EqualTail ∷ s) b r new after (stop Level.Comparison h)
loose_Comparison p d x xs is Front.Outer s b r new after h = is Front.Outer s b r new after (stop Level.Comparison h)

loose_Equality : (p : Place) (d : ℕ) (x : KExpr) (xs : Roles) → Written p Level.Equality d x xs → Written p Level.And d x xs
unfolding written
loose_Equality p d x xs is Front.Inner s b r new after h = is Front.Inner (y.Form f.AndTail ∷ s) b r new after (stop Level.Equality h)
loose_Equality p d x xs is Front.Outer s b r new after h = is Front.Outer s b r new after (stop Level.Equality h)

loose_And : (p : Place) (d : ℕ) (x : KExpr) (xs : Roles) → Written p Level.And d x xs → Written p Level.Or d x xs
unfolding written
loose_And p d x xs is Front.Inner s b r new after h = is Front.Inner (y.Form f.OrTail ∷ s) b r new after (stop Level.And h)
loose_And p d x xs is Front.Outer s b r new after h = is Front.Outer s b r new after (stop Level.And h)

pub from_Or : (p : Place) (d : ℕ) (x : KExpr) (xs : Roles) (m : Level) → nat_lt 1 (number m) ≡ false → Written p Level.Or d x xs → Written p m d x xs
from_Or p d x xs Level.Or h is = is
from_Or p d x xs _ h is = absurd (cc h)

pub from_And : (p : Place) (d : ℕ) (x : KExpr) (xs : Roles) (m : Level) → nat_lt 2 (number m) ≡ false → Written p Level.And d x xs → Written p m d x xs
from_And p d x xs Level.And h is = is
from_And p d x xs m h is = from_Or p d x xs m h (loose_And p d x xs is)

pub from_Equality : (p : Place) (d : ℕ) (x : KExpr) (xs : Roles) (m : Level) → nat_lt 3 (number m) ≡ false → Written p Level.Equality d x xs → Written p m d x xs
from_Equality p d x xs Level.Equality h is = is
from_Equality p d x xs m h is = from_And p d x xs m h (loose_Equality p d x xs is)

pub from_Comparison : (p : Place) (d : ℕ) (x : KExpr) (xs : Roles) (m : Level) → nat_lt 4 (number m) ≡ false → Written p Level.Comparison d x xs → Written p m d x xs
from_Comparison p d x xs Level.Comparison h is = is
from_Comparison p d x xs m h is = from_Equality p d x xs m h (loose_Comparison p d x xs is)

pub from_Is : (p : Place) (d : ℕ) (x : KExpr) (xs : Roles) (m : Level) → nat_lt 5 (number m) ≡ false → Written p Level.Is d x xs → Written p m d x xs
from_Is p d x xs Level.Is h is = is
from_Is p d x xs m h is = from_Comparison p d x xs m h (loose_Is p d x xs is)

pub from_Infix : (p : Place) (d : ℕ) (x : KExpr) (xs : Roles) (m : Level) → nat_lt 6 (number m) ≡ false → Written p Level.Infix d x xs → Written p m d x xs
from_Infix p d x xs Level.Infix h is = is
from_Infix p d x xs m h is = from_Is p d x xs m h (loose_Infix p d x xs is)

pub from_Sum : (p : Place) (d : ℕ) (x : KExpr) (xs : Roles) (m : Level) → nat_lt 7 (number m) ≡ false → Written p Level.Sum d x xs → Written p m d x xs
from_Sum p d x xs Level.Sum h is = is
from_Sum p d x xs m h is = from_Infix p d x xs m h (loose_Sum p d x xs is)

pub from_Product : (p : Place) (d : ℕ) (x : KExpr) (xs : Roles) (m : Level) → nat_lt 8 (number m) ≡ false → Written p Level.Product d x xs → Written p m d x xs
from_Product p d x xs Level.Product h is = is
from_Product p d x xs m h is = from_Sum p d x xs m h (loose_Product p d x xs is)

pub from_Cast : (p : Place) (d : ℕ) (x : KExpr) (xs : Roles) (m : Level) → nat_lt 9 (number m) ≡ false → Written p Level.Cast d x xs → Written p m d x xs
from_Cast p d x xs Level.Cast h is = is
from_Cast p d x xs m h is = from_Product p d x xs m h (loose_Cast p d x xs is)

pub from_Pre : (p : Place) (d : ℕ) (x : KExpr) (xs : Roles) (m : Level) → nat_lt 10 (number m) ≡ false → Written p Level.Pre d x xs → Written p m d x xs
from_Pre p d x xs Level.Pre h is = is
from_Pre p d x xs m h is = from_Cast p d x xs m h (loose_Pre p d x xs is)

pub from_Post : (p : Place) (d : ℕ) (x : KExpr) (xs : Roles) (m : Level) → nat_lt 11 (number m) ≡ false → Written p Level.Post d x xs → Written p m d x xs
from_Post p d x xs Level.Post h is = is
from_Post p d x xs m h is = from_Pre p d x xs m h (loose_Post p d x xs is)

pub from_level : (l : Level) (p : Place) (d : ℕ) (x : KExpr) (xs : Roles) (m : Level) → nat_lt (number l) (number m) ≡ false → Written p l d x xs → Written p m d x xs
from_level Level.Or p d x xs m h is = from_Or p d x xs m h is
from_level Level.And p d x xs m h is = from_And p d x xs m h is
from_level Level.Equality p d x xs m h is = from_Equality p d x xs m h is
from_level Level.Comparison p d x xs m h is = from_Comparison p d x xs m h is
from_level Level.Is p d x xs m h is = from_Is p d x xs m h is
from_level Level.Infix p d x xs m h is = from_Infix p d x xs m h is
from_level Level.Sum p d x xs m h is = from_Sum p d x xs m h is
from_level Level.Product p d x xs m h is = from_Product p d x xs m h is
from_level Level.Cast p d x xs m h is = from_Cast p d x xs m h is
from_level Level.Pre p d x xs m h is = from_Pre p d x xs m h is
from_level Level.Post p d x xs m h is = from_Post p d x xs m h is

loosest : (l : Level) → nat_lt (number l) 1 ≡ false
loosest Level.Or = refl
loosest Level.And = refl
loosest Level.Equality = refl
loosest Level.Comparison = refl
loosest Level.Is = refl
loosest Level.Infix = refl
loosest Level.Sum = refl
loosest Level.Product = refl
loosest Level.Cast = refl
loosest Level.Pre = refl
loosest Level.Post = refl

pub whole_of : (l : Level) (p : Place) (d : ℕ) (x : KExpr) (xs : Roles) → Written p l d x xs → Whole p d x xs
unfolding written
whole_of l p d x xs is s b r new after h = way w.ExprOr (opened Level.Or (from_level l p d x xs Level.Or (loosest l) is Front.Inner s b r new after (stop Level.Or h)))

pub stated_of : (l : Level) (p : Place) (d : ℕ) (x : KExpr) (xs : Roles) → Fits d → Written p l d x xs → Stated p d x xs
unfolding written
stated_of l p d x xs fits is s b r new after h = from_level l p d x xs Level.Or (loosest l) is Front.Outer s b r new after (way w.OrEnd (way w.StoreNone (act (acts_Expression d x b fits) h)))

-- an operand of a level
pub operand_of : (l : Level) (p : Place) (d : ℕ) (x : KExpr) (xs : Roles) (s : Symbols) (b : Built) (r : Roles) (new : Built) → Written p l d x xs → After p (L gap.Plain r)
    → Der s (expr d x b) (L gap.Plain r) new → Der (y.Form (form_at l) ∷ s) b (L gap.Plain (xs ++ r)) new
operand_of l p d x xs s b r new is after h = opened l (is Front.Inner s b r new after (stop l h))

-- ---- first operands

-- A first operand without an operator, where its tokens are.
pub plain_front : (front : Front) (s : Symbols) (b : Built) (ls : Letters) (new : Built) → Der (y.Form f.Plain ∷ y.Form f.Suffixes ∷ left front Level.Post s) b ls new → Der (top front Level.Post s) b ls new
unfolding written
plain_front Front.Inner s b ls new h = way w.PrefixedOperand (way w.OperandPlain h)
plain_front Front.Outer s b ls new h = way w.StatementPlain h
