-- The pairs of two groups are a group, part by part.
use Rattle.std.specs.Prelude.{◌≡◌}
use Rattle.std.proofs.Common.{sym, ap, ◌∙◌}
use Rattle.quantity.specs.Group.{Group}

-- P is made of a K and an L
pub record Pairing (P K L : Type 0) : Type 0 where
  pub make : K → L → P
  pub left : P → K
  pub right : P → L
  pub left_of : (a : K) (b : L) → left (make a b) ≡ a
  pub right_of : (a : K) (b : L) → right (make a b) ≡ b
  pub made_of : (p : P) → make (left p) (right p) ≡ p

module _ {P K L : Type 0} (Q : Pairing P K L) where
  pub both : {a c : K} {b d : L} → a ≡ c → b ≡ d → Q.make a b ≡ Q.make c d
  both p q = λ i. Q.make (p i) (q i)

  abbrev pub pairs : Group K → Group L → Group P
  pairs G H = record {
    zero = Q.make G.zero H.zero;
    sum = λ x y. Q.make (G.sum (Q.left x) (Q.left y)) (H.sum (Q.right x) (Q.right y));
    negation = λ x. Q.make (G.negation (Q.left x)) (H.negation (Q.right x));
    multiple = λ c x. Q.make (G.multiple c (Q.left x)) (H.multiple c (Q.right x));
    associative = λ x y z. both
        (ap (λ a. G.sum a (Q.left z)) (Q.left_of _ _)
        ∙ G.associative (Q.left x) (Q.left y) (Q.left z)
        ∙ ap (G.sum (Q.left x)) (sym (Q.left_of _ _)))
        (ap (λ b. H.sum b (Q.right z)) (Q.right_of _ _)
        ∙ H.associative (Q.right x) (Q.right y) (Q.right z)
        ∙ ap (H.sum (Q.right x)) (sym (Q.right_of _ _)));
    commutative = λ x y. both (G.commutative (Q.left x) (Q.left y)) (H.commutative (Q.right x) (Q.right y));
    neutral = λ x. both
        (ap (λ a. G.sum a (Q.left x)) (Q.left_of _ _) ∙ G.neutral (Q.left x))
        (ap (λ b. H.sum b (Q.right x)) (Q.right_of _ _) ∙ H.neutral (Q.right x))
        ∙ Q.made_of x;
    inverse = λ x. both
        (ap (G.sum (Q.left x)) (Q.left_of _ _) ∙ G.inverse (Q.left x))
        (ap (H.sum (Q.right x)) (Q.right_of _ _) ∙ H.inverse (Q.right x));
    multiple_none = λ x. both (G.multiple_none (Q.left x)) (H.multiple_none (Q.right x));
    multiple_more = λ c x. both
        (G.multiple_more c (Q.left x) ∙ ap (λ a. G.sum a (Q.left x)) (sym (Q.left_of _ _)))
        (H.multiple_more c (Q.right x) ∙ ap (λ b. H.sum b (Q.right x)) (sym (Q.right_of _ _)));
  }
