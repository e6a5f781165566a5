-- Lists that are read, an item at a time.
use Rattle.std.proofs.Common.{◌≡◌, ◌≤◌, ◌<◌, ◌+◌, ◌-◌, ℕ, zero, suc, Bool, true, false, List, [], ◌∷◌, ◌++◌, Some, None, refl, ap, sym, ◌∙◌, append_assoc, append-nil, arith}
use Rattle.java_tree.specs.Seen.{Tokens}
use Rattle.java_expr_grammar.specs.Reading.{Read, Reader, ◌>>=◌}
use Rattle.java_unit_grammar.specs.Reading.{many}
use Rattle.java_block_parser.specs.Asks.{onto}

module _ {A : Type 0} (stop : Tokens → Bool) (item : Reader A) where
  tested : (n : ℕ) (ts : Tokens) → stop ts ≡ true → many stop item n ts ≡ Some ([], ts)
  unfolding many
  tested zero ts s = rw s refl
  tested (suc n) ts s = rw s refl

  none_left : (ts : Tokens) → stop ts ≡ false → many stop item zero ts ≡ None
  unfolding many
  none_left ts s = rw s refl

  one_left : (n : ℕ) (ts : Tokens) → stop ts ≡ false → many stop item (suc n) ts ≡ (item ts >>= λ x. many stop item n x.1 >>= λ xs. Some (x.0 ∷ xs.0, xs.1))
  unfolding many
  one_left n ts s = rw s refl

  from_none : (o : Read (List A)) → o ≡ onto [] o
  from_none None = refl
  from_none (Some x) = refl

  pub begun : (n : ℕ) (ts : Tokens) → many stop item n ts ≡ onto [] (many stop item n ts)
  begun n ts = from_none (many stop item n ts)

  pub stopped : (all : Read (List A)) (n : ℕ) (xs : List A) (ts : Tokens) → all ≡ onto xs (many stop item n ts) → stop ts ≡ true → all ≡ Some (xs, ts)
  stopped all n xs ts e s = e ∙ ap (onto xs) (tested n ts s) ∙ ap (λ ys. Some (ys, ts)) (append-nil xs)

  ended_by : (all : Read (List A)) (n : ℕ) (xs : List A) (ts : Tokens) → all ≡ onto xs (many stop item n ts) → n ≡ 0 → stop ts ≡ false → all ≡ None
  ended_by all zero xs ts e z s = e ∙ ap (onto xs) (none_left ts s)
  ended_by all (suc n) xs ts e z s = absurd (omega arith)

  pub ended : (all : Read (List A)) (end turn : ℕ) (xs : List A) (ts : Tokens) → end ≤ turn → all ≡ onto xs (many stop item (end - turn) ts) → stop ts ≡ false → all ≡ None
  ended all end turn xs ts l e s = ended_by all (end - turn) xs ts e (omega arith) s

  stuck_by : (n : ℕ) (ts : Tokens) → stop ts ≡ false → item ts ≡ None → many stop item n ts ≡ None
  stuck_by zero ts s i = none_left ts s
  stuck_by (suc n) ts s i = one_left n ts s ∙ ap (λ (o : Read A). o >>= λ x. many stop item n x.1 >>= λ xs. Some (x.0 ∷ xs.0, xs.1)) i

  pub stuck : (all : Read (List A)) (n : ℕ) (xs : List A) (ts : Tokens) → all ≡ onto xs (many stop item n ts) → stop ts ≡ false → item ts ≡ None → all ≡ None
  stuck all n xs ts e s i = e ∙ ap (onto xs) (stuck_by n ts s i)

  joined : (xs : List A) (x : A) (o : Read (List A)) → onto xs (o >>= λ ys. Some (x ∷ ys.0, ys.1)) ≡ onto (xs ++ x ∷ []) o
  joined xs x None = refl
  joined xs x (Some ys) = ap (λ zs. Some (zs, ys.1)) (sym (append_assoc xs (x ∷ []) ys.0))

  longer_by : (all : Read (List A)) (n : ℕ) (xs : List A) (x : A) (ts us : Tokens) → all ≡ onto xs (many stop item (suc n) ts) → stop ts ≡ false
      → item ts ≡ Some (x, us) → all ≡ onto (xs ++ x ∷ []) (many stop item n us)
  longer_by all n xs x ts us e s i =
      e ∙ ap (onto xs) (one_left n ts s ∙ ap (λ (o : Read A). o >>= λ x. many stop item n x.1 >>= λ xs. Some (x.0 ∷ xs.0, xs.1)) i) ∙ joined xs x (many stop item n us)

  pub longer : (all : Read (List A)) (end turn : ℕ) (xs : List A) (x : A) (ts us : Tokens) → turn < end → all ≡ onto xs (many stop item (end - turn) ts) → stop ts ≡ false
      → item ts ≡ Some (x, us) → all ≡ onto (xs ++ x ∷ []) (many stop item (end - (turn + 1)) us)
  longer all end turn xs x ts us l e s i =
      let same : end - turn ≡ suc (end - (turn + 1)) = omega arith in
      longer_by all (end - (turn + 1)) xs x ts us (e ∙ ap (λ n. onto xs (many stop item n ts)) same) s i
