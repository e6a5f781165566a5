-- The faults of some forms, by those of their parts.
use Rattle.std.proofs.Common.{◌≡◌, Bool, true, false, not, ◌&&◌, ◌||◌, List, ◌∷◌, ◌++◌, ap, sym, ◌∙◌, refl}
use Rattle.java_tree.specs.declared.tokens.Position.{Position}
use Rattle.java_typed.specs.declared.members.MemberRef.{MemberRef}
use Rattle.java_typed.specs.declared.exprs.TExpr.{TExpr, roll-TExpr, map-TExpr, fold-roll-TExpr}
use Rattle.java_typed.specs.declared.exprs.TExpr.TheOpen.{TExpr-F}
use Rattle.java_typed.specs.declared.exprs.TExpr.TheVariants as e
use Rattle.java_facts.specs.Kinds.{result_sort}
use Rattle.java_typed.specs.declared.statements.TLock.TheVariants as lock
use Rattle.java_profile.specs.Faults.{Rule, Fault, fault, told, P5, P6, P7}
use Rattle.java_profile.specs.Expressions.{Judged, judged, judged_by, is_valued}
use Rattle.java_profile.specs.Statements.{is_text_or_box, lock_faults, value_faults}

module _ (constants : MemberRef → Bool) where
  form : (x : TExpr-F TExpr) (y : TExpr) → roll-TExpr x ≡ y → judged constants y ≡ judged_by constants (map-TExpr TExpr Judged (judged constants) x)
  unfolding judged
  form x y rolls = ap (judged constants) (sym rolls) ∙ fold-roll-TExpr Judged (judged_by constants) x

  abbrev faults : TExpr → List Fault
  faults x = (judged constants x).faults

  told_so : (rule : Rule) (at : Position) (m n v w : Bool) (more : List Fault) → m ≡ false → n ≡ false → v ≡ true → told (not (m || n) && (v || w)) rule at ++ more ≡ fault rule at ∷ more
  told_so rule at false false true w more p q r = refl
  told_so rule at true n v w more p q r = cc
  told_so rule at false true v w more p q r = cc
  told_so rule at false false false w more p q r = cc

  -- `==` and `!=`
  pub same_faults : (x : TExpr) (b : Bool) (at : Position) (y : TExpr) → (judged constants x).is_null ≡ false → (judged constants y).is_null ≡ false → is_valued (judged constants x).kind ≡ true →
      (judged constants (e.Same x b at y)).faults ≡ fault P5 at ∷ ((judged constants x).faults ++ (judged constants y).faults)
  same_faults x b at y p q r =
      ap (λ z. z.faults) (form (TExpr-F.Same x b at y) _ (e.rolls-Same x b at y)) ∙
      told_so P5 at (judged constants x).is_null (judged constants y).is_null (is_valued (judged constants x).kind) (is_valued (judged constants y).kind) (faults x ++ faults y) p q r

  -- a static member through a value
  pub through_faults : (x : TExpr) (y : TExpr) → (judged constants (e.Through x y)).faults ≡ fault P7 (judged constants x).first ∷ ((judged constants x).faults ++ (judged constants y).faults)
  through_faults x y = ap (λ z. z.faults) (form (TExpr-F.Through x y) _ (e.rolls-Through x y))

  told_lock : (at : Position) (b : Bool) (more : List Fault) → b ≡ true → told b P6 at ++ more ≡ fault P6 at ∷ more
  told_lock at true more h = refl
  told_lock at false more h = cc

  -- a lock
  pub locked_faults : (x : TExpr) → is_text_or_box (result_sort (judged constants x).kind) ≡ true → lock_faults constants (lock.Value x) ≡ fault P6 (judged constants x).first ∷ value_faults constants x
  locked_faults x h = told_lock (judged constants x).first (is_text_or_box (result_sort (judged constants x).kind)) (value_faults constants x) h
