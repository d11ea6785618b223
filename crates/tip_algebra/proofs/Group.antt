-- Equations in a commutative group of exponent 2, decided by counting each atom mod 2.
use Rattle.std.proofs.Common.{◌≡◌, ℕ, zero, suc, Bool, true, false, cond, T, List, [], ◌∷◌, get_or, sym, refl, ap, ◌∙◌}
use Rattle.tip_element.specs.Laws.{Laws}
use Rattle.tip_element.proofs.Joins.{right}

-- an expression over numbered atoms
pub data Expr : Type 0 where
  o : Expr
  v : ℕ → Expr
  ◌⊕◌ : Expr → Expr → Expr

infixl 6 ◌⊕◌
abbrev pub flip : Bool → Bool → Bool
flip true true = false
flip true false = true
flip false b = b

abbrev pub add : List Bool → List Bool → List Bool
add [] ys = ys
add (x ∷ xs) [] = x ∷ xs
add (x ∷ xs) (y ∷ ys) = flip x y ∷ add xs ys

abbrev pub unit : ℕ → List Bool
unit zero = true ∷ []
unit (suc n) = false ∷ unit n

abbrev pub norm : Expr → List Bool
norm o = []
norm (v n) = unit n
norm (a ⊕ b) = add (norm a) (norm b)

-- no atom is left
abbrev pub blank : List Bool → Bool
blank [] = true
blank (true ∷ xs) = false
blank (false ∷ xs) = blank xs

module _ {E : Type 0} (none : E) (join : E → E → E) where
  abbrev pub eval : List E → Expr → E
  eval env o = none
  eval env (v n) = get_or env n none
  eval env (a ⊕ b) = join (eval env a) (eval env b)

  -- the join of the atoms that are marked
  abbrev marked : List Bool → List E → E
  marked [] env = none
  marked (b ∷ bs) [] = none
  marked (b ∷ bs) (x ∷ env) = join (cond b x none) (marked bs env)

module _ {E : Type 0} {none : E} {join : E → E → E} (laws : Laws none join) where
  -- (a + b) + (c + d) = (a + c) + (b + d)
  pub middle : (a b c d : E) → join (join a b) (join c d) ≡ join (join a c) (join b d)
  middle a b c d =
      laws.assoc a b (join c d)
      ∙ ap (join a) (sym (laws.assoc b c d) ∙ ap (λ x. join x d) (laws.comm b c) ∙ laws.assoc c b d)
      ∙ sym (laws.assoc a c (join b d))

  -- equal, where the join is nothing
  pub same : (a b : E) → join a b ≡ none → a ≡ b
  same a b h =
      sym (right laws a) ∙ ap (join a) (sym (laws.cancel b)) ∙ sym (laws.assoc a b b) ∙ ap (λ x. join x b) h ∙ laws.neutral b

  flips : (x y : Bool) (e : E) → cond (flip x y) e none ≡ join (cond x e none) (cond y e none)
  flips true true e = sym (laws.cancel e)
  flips true false e = sym (right laws e)
  flips false true e = sym (laws.neutral e)
  flips false false e = sym (laws.neutral none)

  adds : (xs ys : List Bool) (env : List E) → marked none join (add xs ys) env ≡ join (marked none join xs env) (marked none join ys env)
  adds [] ys env = sym (laws.neutral (marked none join ys env))
  adds (x ∷ xs) [] env = sym (right laws (marked none join (x ∷ xs) env))
  adds (x ∷ xs) (y ∷ ys) [] = sym (laws.neutral none)
  adds (x ∷ xs) (y ∷ ys) (e ∷ env) =
      ap (join (cond (flip x y) e none)) (adds xs ys env)
      ∙ ap (λ z. join z (join (marked none join xs env) (marked none join ys env))) (flips x y e)
      ∙ middle (cond x e none) (cond y e none) (marked none join xs env) (marked none join ys env)

  units : (n : ℕ) (env : List E) → marked none join (unit n) env ≡ get_or env n none
  units zero [] = refl
  units zero (e ∷ env) = right laws e
  units (suc n) [] = refl
  units (suc n) (e ∷ env) = laws.neutral (marked none join (unit n) env) ∙ units n env

  sound : (env : List E) (e : Expr) → marked none join (norm e) env ≡ eval none join env e
  sound env o = refl
  sound env (v n) = units n env
  sound env (a ⊕ b) =
      adds (norm a) (norm b) env
      ∙ ap (λ x. join x (marked none join (norm b) env)) (sound env a)
      ∙ ap (join (eval none join env a)) (sound env b)

  blanks : (bs : List Bool) (env : List E) → T (blank bs) → marked none join bs env ≡ none
  blanks [] env t = refl
  blanks (true ∷ bs) env t = absurd t
  blanks (false ∷ bs) [] t = refl
  blanks (false ∷ bs) (e ∷ env) t = laws.neutral (marked none join bs env) ∙ blanks bs env t

  -- The equation holds where each atom stands an even number of times on the two sides together.
  pub solve : (env : List E) (a b : Expr) → T (blank (norm (a ⊕ b))) → eval none join env a ≡ eval none join env b
  solve env a b t =
      same (eval none join env a) (eval none join env b) (sym (sound env (a ⊕ b)) ∙ blanks (norm (a ⊕ b)) env t)

-- an equation between two expressions
pub data Eqn : Type 0 where
  ◌≐◌ : Expr → Expr → Eqn

infix 5 ◌≐◌
-- both sides of all of them, joined
abbrev pub sides : List Eqn → Expr
sides [] = o
sides ((l ≐ r) ∷ es) = (l ⊕ r) ⊕ sides es

module _ {E : Type 0} (none : E) (join : E → E → E) where
  -- each of them holds: a pair for each, and `tt` at the end
  abbrev pub Hold : List E → List Eqn → Type 0
  Hold env [] = Unit {0}
  Hold env ((l ≐ r) ∷ es) = (eval none join env l ≡ eval none join env r) × Hold env es

module _ {E : Type 0} {none : E} {join : E → E → E} (laws : Laws none join) where
  sides_none : (env : List E) (es : List Eqn) → Hold none join env es → eval none join env (sides es) ≡ none
  sides_none env [] h = refl
  sides_none env ((l ≐ r) ∷ es) h =
      ap (λ x. join (join x (eval none join env r)) (eval none join env (sides es))) h.0
      ∙ ap (λ x. join x (eval none join env (sides es))) (laws.cancel (eval none join env r))
      ∙ laws.neutral (eval none join env (sides es))
      ∙ sides_none env es h.1

  -- The equation follows from the others: over all of them together each atom stands an even number of times.
  pub solveBy : (env : List E) (a b : Expr) (es : List Eqn) → T (blank (norm ((a ⊕ b) ⊕ sides es))) → Hold none join env es → eval none join env a ≡ eval none join env b
  solveBy env a b es t h =
      same laws (eval none join env a) (eval none join env b)
      (solve laws env (a ⊕ b) (sides es) t ∙ sides_none env es h)
