-- Parts that are safe, and what is made of them.
use Rattle.std.proofs.Common.{◌≡◌, ℕ, List, [], ◌∷◌, Some, refl, sym, ◌∙◌, ap}
use Rattle.meanings.specs.Values.{Step, Answer}
use Rattle.meanings.specs.Outcome.{Locals, Jump, Outcome, Asks, Busy, Gives, Jumps, Meaning, then_do, pure, ◌>>=◌, jump, ask, busy}
use Rattle.meanings.specs.World.{World, answer}
use Rattle.meanings.specs.Tables.{Table, Made, Known, Later, Between, Ok, Moved}
use Rattle.meanings.specs.Safety.{Plan, Fine, with_made, Safe, asks, is_busy, gives, jumps, Sound}
use Rattle.meanings.proofs.KnownLaws.{later_self, later_on}

module _ (t : Table) (i : ℕ) where
  pub same_safe : {A : Type 0} {Q : Known → A → Locals → Type 0} {J : Known → Jump → Locals → Type 0} {K : Known} {b b' : Plan A} → ((xs : List Answer) → b xs ≡ b' xs) → Safe t i Q J K b → Safe t i Q J K b'
  same_safe e (asks p grow h fine moves rest) = asks p grow (sym (e []) ∙ h) fine moves (λ K' le ok w a r. same_safe (λ xs. e (a ∷ xs)) (rest K' le ok w a r))
  same_safe e (is_busy h) = is_busy (λ xs. sym (e xs) ∙ h xs)
  same_safe e (gives a l n h q) = gives a l n (λ xs. sym (e xs) ∙ h xs) q
  same_safe e (jumps j l n h q) = jumps j l n (λ xs. sym (e xs) ∙ h xs) q

  -- a function of outcomes that leaves steps and Busy as they are
  pub record Passes {A B : Type 0} (g : Outcome A → Outcome B) : Type 0 where
    pub asks : (p : Step) → g (Asks p) ≡ Asks p
    pub is_busy : g Busy ≡ Busy

  pub after_safe : {A B : Type 0} {Q : Known → A → Locals → Type 0} {J : Known → Jump → Locals → Type 0} {Q' : Known → B → Locals → Type 0} {J' : Known → Jump → Locals → Type 0}
      (g : Outcome A → Outcome B) → Passes g → {K : Known} {b : Plan A} → Safe t i Q J K b
      → ((K' : Known) (a : A) (l : Locals) (n : ℕ) → Later K K' → Q K' a l → Safe t i Q' J' K' (λ xs. g (Gives a (record { locals = l; answers = xs; n = n }))))
      → ((K' : Known) (j : Jump) (l : Locals) (n : ℕ) → Later K K' → J K' j l → Safe t i Q' J' K' (λ xs. g (Jumps j (record { locals = l; answers = xs; n = n }))))
      → Safe t i Q' J' K (λ xs. g (b xs))
  after_safe g passes (asks p grow h fine moves rest) f k = asks p grow (ap g h ∙ passes.asks p) fine moves
      (λ K' le ok w a r. after_safe g passes (rest K' le ok w a r)
      (λ K'' x l n le' q. f K'' x l n (later_on le.later (later_on (moves K' le ok w a r).later le')) q)
      (λ K'' j l n le' q. k K'' j l n (later_on le.later (later_on (moves K' le ok w a r).later le')) q))
  after_safe g passes (is_busy h) f k = is_busy (λ xs. ap g (h xs) ∙ passes.is_busy)
  after_safe g passes {K} (gives a l n h q) f k = same_safe (λ xs. sym (ap g (h xs))) (f K a l n (later_self K) q)
  after_safe g passes {K} (jumps j l n h q) f k = same_safe (λ xs. sym (ap g (h xs))) (k K j l n (later_self K) q)

  pub bind_sound : {A B : Type 0} {Q : Known → A → Locals → Type 0} {Q' : Known → B → Locals → Type 0} {J : Known → Jump → Locals → Type 0} {m : Meaning A} {f : A → Meaning B} {K : Known} {l : Locals} {n : ℕ}
      → Sound t i Q J K m l n → ((K' : Known) (a : A) (l' : Locals) (n' : ℕ) → Later K K' → Q K' a l' → Sound t i Q' J K' (f a) l' n') → Sound t i Q' J K (m >>= f) l n
  bind_sound {f = f} h g = record { by = after_safe (λ o. then_do o f) (record { asks = λ p. refl; is_busy = refl }) h.by (λ K' a l n le q. (g K' a l n le q).by) (λ K' j l n le q. jumps j l n (λ xs. refl) q) }

  pub pure_sound : {A : Type 0} {Q : Known → A → Locals → Type 0} {J : Known → Jump → Locals → Type 0} {K : Known} {a : A} {l : Locals} {n : ℕ} → Q K a l → Sound t i Q J K (pure a) l n
  pure_sound q = record { by = gives _ _ _ (λ xs. refl) q }

  pub jump_sound : {A : Type 0} {Q : Known → A → Locals → Type 0} {J : Known → Jump → Locals → Type 0} {K : Known} {j : Jump} {l : Locals} {n : ℕ} → J K j l → Sound t i Q J K (jump {A = A} j) l n
  jump_sound q = record { by = jumps _ _ _ (λ xs. refl) q }

  pub busy_sound : {A : Type 0} {Q : Known → A → Locals → Type 0} {J : Known → Jump → Locals → Type 0} {K : Known} {l : Locals} {n : ℕ} → Sound t i Q J K (busy {A = A}) l n
  busy_sound = record { by = is_busy (λ xs. refl) }

  -- another end that follows from this one
  pub weaken : {A : Type 0} {Q Q' : Known → A → Locals → Type 0} {J J' : Known → Jump → Locals → Type 0} {K : Known} {m : Meaning A} {l : Locals} {n : ℕ} → Sound t i Q J K m l n
      → ((K' : Known) (a : A) (l : Locals) → Later K K' → Q K' a l → Q' K' a l) → ((K' : Known) (j : Jump) (l : Locals) → Later K K' → J K' j l → J' K' j l) → Sound t i Q' J' K m l n
  weaken h f k = record { by = after_safe (λ o. o) (record { asks = λ p. refl; is_busy = refl }) h.by (λ K' a l n le q. gives a l n (λ xs. refl) (f K' a l le q)) (λ K' j l n le q. jumps j l n (λ xs. refl) (k K' j l le q)) }

  pub ask_sound : {Q : Known → Answer → Locals → Type 0} {J : Known → Jump → Locals → Type 0} {K : Known} {l : Locals} {n : ℕ} (p : Step) (grow : List Made → List Made) → Fine p
      → ((K' : Known) → Between i K K' → Ok t K' → (w : World) (a : Answer) → answer K'.world i p ≡ Some (w, a) → Moved t K' (with_made K' grow w) × Q (with_made K' grow w) a l)
      → Sound t i Q J K (ask p) l n
  ask_sound p grow fine h = record { by = asks p grow refl fine (λ K' le ok w a r. (h K' le ok w a r).0) (λ K' le ok w a r. gives a _ _ (λ xs. refl) (h K' le ok w a r).1) }
