-- Variables with another number. A number that the variable can't have leaves them as they are.
use Rattle.std.specs.Prelude.{◌≡◌, ℕ, ◌^◌, Bool, true, false, ◌&&◌, nat_le, nat_lt, ℤ, pos, negsuc, refl}
use Rattle.std.proofs.lemmas.Bool.{leb-true, ltb-true, and_parts}
use Rattle.pp_base.specs.declared.fraction.Fraction.{Fraction}
use Rattle.pp_model.specs.declared.presentation.Presentation.{Presentation}
use Rattle.pp_model.specs.declared.environment.Environment.{Environment}

-- the value where the test passes, which the value may rely on, else the other
abbrev pub where_true : {A : Type 0} (passes : Bool) → (passes ≡ true → A) → A → A
where_true true value other = value refl
where_true false value other = other

-- the most nodes, -1 for the report's own number; no number below -1
abbrev pub with_nodecount : Presentation → ℤ → Presentation
with_nodecount shown (pos n) =
    record shown { nodecount = pos n; nodecount_from = record { le = tt } }
with_nodecount shown (negsuc n) =
    where_true (nat_le n 0)
    (λ _. record shown { nodecount = negsuc 0; nodecount_from = record { le = tt } }) shown

-- the fraction of n billionths, where it is at most 1
abbrev pub fraction_or : Fraction → ℕ → Fraction
fraction_or other n =
    where_true (nat_le n 1000000000)
    (λ fits. record { billionths = n; at_most_one = leb-true _ _ fits }) other

-- what values are divided by, from 1 to 2^63-1
abbrev pub with_divide_by : Presentation → ℕ → Presentation
with_divide_by shown n =
    where_true (nat_le 1 n && nat_lt n (2 ^ 63))
    (λ fits. record shown {
      divide_by = n;
      divisor_from = leb-true _ _ (and_parts _ _ fits).0;
      divisor_below = ltb-true _ _ (and_parts _ _ fits).1;
    })
    shown

-- the number of workers, from 1 to 64
abbrev pub with_workers : Environment → ℕ → Environment
with_workers machine n =
    where_true (nat_le 1 n && nat_le n 64)
    (λ fits. record machine {
      workers = n;
      workers_from = leb-true _ _ (and_parts _ _ fits).0;
      workers_to = leb-true _ _ (and_parts _ _ fits).1;
    })
    machine
