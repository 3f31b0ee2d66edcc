-- The unbounded integers are a group.
use Rattle.std.proofs.Common.{ap, ◌∙◌}
use Rattle.std.specs.Prelude.{ℤ, pos, ◌+ℤ◌, ◌*ℤ◌, neg_ℤ}
use Rattle.std.proofs.Math.IntN.{+ℤ_assoc, +ℤ_comm, +ℤ_idl, +ℤ_invr, +ℤ_one, zero-*ℤ, suc_ℤ-*ℤ}
use Rattle.quantity.specs.Group.{Group}

abbrev pub integers : Group ℤ
integers = record {
  zero = pos 0;
  sum = ◌+ℤ◌;
  negation = neg_ℤ;
  multiple = ◌*ℤ◌;
  associative = +ℤ_assoc;
  commutative = +ℤ_comm;
  neutral = +ℤ_idl;
  inverse = +ℤ_invr;
  multiple_none = zero-*ℤ;
  multiple_more = λ c x. ap (λ k. k *ℤ x) (+ℤ_one c) ∙ suc_ℤ-*ℤ c x;
}
