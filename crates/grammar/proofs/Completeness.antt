-- What is derived is read, where one kind ahead decides.
use Rattle.std.proofs.Common.{◌≡◌, ℕ, zero, suc, Bool, true, false, ◌++◌, List, [], ◌∷◌, Option, Some, refl, ap, sym, ◌∙◌, subst}
use Rattle.std.specs.Prelude.{if◌then◌else◌}
use Rattle.grammar.specs.declared.symbols.Symbol.{Symbol}
use Rattle.grammar.specs.declared.symbols.Symbol.TheVariants as y
use Rattle.grammar.specs.Grammar.{Grammar, Derives}
use Rattle.grammar.specs.Machine.{Choice, run}
use Rattle.grammar.specs.Certificate.{Certificate, IsDecided, form_first, first, implies, may_follow}

both : (a b : Bool) → (if a then b else false) ≡ true → (a ≡ true) × (b ≡ true)
both true b h = (refl, h)
both false b h = absurd (cc h)

implied : (a b : Bool) → implies a b ≡ true → a ≡ true → b ≡ true
implied true b h g = h
implied false b h g = absurd (cc g)

or_else : (p q a b : Bool) → (a ≡ true → b ≡ true) → (if p then true else (if q then a else false)) ≡ true → (if p then true else (if q then b else false)) ≡ true
or_else true q a b f h = refl
or_else false true a b f h = f h
or_else false false a b f h = absurd (cc h)

module _ {Token Kind Term Form Way Act Built : Type 0} (g : Grammar Token Term Form Way Act Built) (c : Choice Token Kind Form Way)
    (r : Certificate Token Kind Term Form) (h : IsDecided g c r) where
  abbrev Symbols : Type 0
  Symbols = List (Symbol Term Form Act)

  -- ---- what may come first

  first_append : (s z : Symbols) (b : Bool) (k : Kind) → first r (s ++ z) b k ≡ first r s (first r z b k) k
  first_append [] z b k = refl
  first_append (y.Term t ∷ s) z b k = refl
  first_append (y.Act a ∷ s) z b k = first_append s z b k
  first_append (y.Form n ∷ s) z b k = ap (λ x. form_first r n x k) (first_append s z b k)

  first_grows : (s : Symbols) (a b : Bool) (k : Kind) → (a ≡ true → b ≡ true) → first r s a k ≡ true → first r s b k ≡ true
  first_grows [] a b k f e = f e
  first_grows (y.Term t ∷ s) a b k f e = e
  first_grows (y.Act d ∷ s) a b k f e = first_grows s a b k f e
  first_grows (y.Form n ∷ s) a b k f e = or_else (r.begins n k) (r.may_be_empty n) (first r s a k) (first r s b k) (first_grows s a b k f) e

  -- the kinds that may come first of all that is left
  abbrev pub starts : Symbols → Kind → Bool
  starts s k = first r s (r.is_end k) k

  heads : (d : ℕ) (s : Symbols) (b : Built) (ts : List Token) (e : Built) → Derives g d s b ts e → starts s (c.kind ts) ≡ true
  unfolding Derives
  heads zero s b ts e i = absurd i
  heads (suc d) [] b ts e i = rw i.1 h.ended
  heads (suc d) (y.Term t ∷ s) b ts e i = h.accepted t b ts i.0 i.1
  heads (suc d) (y.Act a ∷ s) b ts e i = heads d s i.0 ts e i.2
  heads (suc d) (y.Form n ∷ s) b ts e i =
      let j : first r (g.written i.0 ++ s) (r.is_end (c.kind ts)) (c.kind ts) ≡ true = heads d (g.written i.0 ++ s) b ts e i.2 in
      subst (λ m. form_first r m (first r s (r.is_end (c.kind ts)) (c.kind ts)) (c.kind ts) ≡ true) i.1
      (h.closed i.0 _ (c.kind ts) (sym (first_append (g.written i.0) s (r.is_end (c.kind ts)) (c.kind ts)) ∙ j))

  -- ---- what follows

  abbrev pub May : Symbols → Form → Type 0
  May s n = (k : Kind) → starts s k ≡ true → r.follows n k ≡ true

  -- each form that waits may be followed by what waits behind it
  abbrev pub Good : Symbols → Type 0
  Good [] = Unit {0}
  Good (y.Term t ∷ s) = Good s
  Good (y.Act a ∷ s) = Good s
  Good (y.Form n ∷ s) = May s n × Good s

  kept : (z s : Symbols) (n : Form) → ((k : Kind) → may_follow r (r.follows n k) z k ≡ true) → May s n → Good s → Good (z ++ s)
  kept [] s n f m q = q
  kept (y.Term t ∷ z) s n f m q = kept z s n f m q
  kept (y.Act a ∷ z) s n f m q = kept z s n f m q
  kept (y.Form i ∷ z) s n f m q = (
    λ k e.
        implied (first r z (r.follows n k) k) (r.follows i k) (both _ (may_follow r (r.follows n k) z k) (f k)).0
        (first_grows z (first r s (r.is_end k) k) (r.follows n k) k (m k) (sym (first_append z s (r.is_end k) k) ∙ e)),
    kept z s n (λ k. (both (implies (first r z (r.follows n k) k) (r.follows i k)) (may_follow r (r.follows n k) z k) (f k)).1) m q,
  )

  pub complete : (d : ℕ) (s : Symbols) (b : Built) (ts : List Token) (e : Built) → Good s → Derives g d s b ts e → run g c d s b ts ≡ Some e
  unfolding run Derives
  complete zero s b ts e q i = absurd i
  complete (suc d) [] b [] e q i = ap Option.Some i.0
  complete (suc d) [] b (t ∷ ts) e q i = absurd (cc i.1)
  complete (suc d) (y.Term t ∷ s) b ts e q i = rw i.1 (complete d s i.0.0 i.0.1 e q i.2)
  complete (suc d) (y.Act a ∷ s) b ts e q i = rw i.1 (complete d s i.0 ts e q i.2)
  complete (suc d) (y.Form n ∷ s) b ts e q i =
      let w = i.0 in
      let m : May s (g.owner w) = subst (May s) (sym i.1) q.0 in
      let j : first r (g.written w) (r.follows (g.owner w) (c.kind ts)) (c.kind ts) ≡ true =
      first_grows (g.written w) (first r s (r.is_end (c.kind ts)) (c.kind ts)) _ (c.kind ts) (m (c.kind ts))
      (sym (first_append (g.written w) s (r.is_end (c.kind ts)) (c.kind ts)) ∙ heads d (g.written w ++ s) b ts e i.2) in
      let is : c.choose n (c.kind ts) ≡ w = ap (λ z. c.choose z (c.kind ts)) (sym i.1) ∙ h.chosen w (c.kind ts) j in
      rw is (complete d (g.written w ++ s) b ts e (kept (g.written w) s (g.owner w) (λ k. h.followed w k) m q.1) i.2)
