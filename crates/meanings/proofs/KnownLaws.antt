-- What is known of a world stays true.
use Rattle.std.proofs.Common.{ℕ, inl, inr, refl, ◌∙◌}
use Rattle.meanings.specs.Values.{Value}
use Rattle.meanings.specs.Static.{KType, IntType, StringType, ClassType, ArrayType, Nullable}
use Rattle.meanings.specs.Tables.{Table, Known, Later, Between, Has}

pub later_self : (K : Known) → Later K K
later_self K = record { shapes = λ k m e. e; fields = λ k f e. e; statics = λ f e. e }

pub later_on : {K K' K'' : Known} → Later K K' → Later K' K'' → Later K K''
later_on a b = record { shapes = λ k m e. b.shapes k m (a.shapes k m e); fields = λ k f e. b.fields k f (a.fields k f e); statics = λ f e. b.statics f (a.statics f e) }

pub between_self : (i : ℕ) (K : Known) → Between i K K
between_self i K = record { later = later_self K; mine = λ class. refl }

pub between_on : {i : ℕ} {K K' K'' : Known} → Between i K K' → Between i K' K'' → Between i K K''
between_on a b = record { later = later_on a.later b.later; mine = λ class. a.mine class ∙ b.mine class }

module _ (t : Table) where
  pub has_later : {K K' : Known} → Later K K' → (v : Value) (type : KType) → Has t K v type → Has t K' v type
  has_later le v IntType h = h
  has_later le v StringType h = h
  has_later le v (ClassType class) h = record { own = h.own; number = h.number; captured = h.captured; is = h.is; shape = le.shapes _ _ h.shape; below = h.below; whole = λ f e. le.fields _ f (h.whole f e) }
  has_later le v (ArrayType type) h = record { elements = h.elements; size = h.size; number = h.number; is = h.is; shape = le.shapes _ _ h.shape }
  has_later le v (Nullable type) (inl e) = inl e
  has_later le v (Nullable type) (inr h) = inr (has_later le v type h)
