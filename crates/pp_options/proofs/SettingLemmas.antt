-- Numbers of variables that lie in their ranges, and fractions of at most one.
use Rattle.std.proofs.Common.{◌≡◌, ℕ, zero, suc, ◌<◌, ◌≤◌, ◌^◌, Bool, true, false, ◌&&◌, refl, ap, sym, ◌∙◌, arith}
use Rattle.std.specs.Prelude.{◌≤ℤ◌, ℤ, pos, negsuc, int_le, nat_le, nat_lt, Option, Some, None, option_map}
use Rattle.std.proofs.Props.{props}
use Rattle.std.proofs.lemmas.Bool.{le-leb, leb-true}
use mathlib.Core.HLevel.{is_prop→PathP}
use mathlib.Core.Bool.{Bool-set}
use Rattle.pp_base.specs.declared.fraction.Fraction.{Fraction}
use Rattle.pp_model.specs.declared.config.Config.{Config}
use Rattle.pp_model.specs.declared.presentation.Presentation.{Presentation}
use Rattle.pp_model.specs.declared.environment.Environment.{Environment}
use Rattle.pp_model.specs.Changes.{where_true, with_nodecount, with_divide_by, with_workers}
use Rattle.pp_model.proofs.ConfigLemmas.{same_fraction, same_environment}
use Rattle.pp_options.specs.Settings.{fraction}

-- where the test passes it is the value
pub where_true_is : {A : Type 0} (b : Bool) (passes : b ≡ true) (value : b ≡ true → A) (other : A) → where_true b value other ≡ value passes
where_true_is true passes value other = ap value (Bool-set true true refl passes)
where_true_is false passes value other = cc

-- a fraction is that of its billionths
pub fraction_is : (part : Fraction) → part ≡ fraction part.billionths
fraction_is part =
    same_fraction _ _ (sym (ap (λ (f : Fraction). f.billionths) (where_true_is (nat_le part.billionths 1000000000) (le-leb _ _ part.at_most_one) _ _)))

-- a presentation with equal numbers is the same, whatever shows that they lie in their ranges
pub represented :
    (s : Presentation) (r r' : ℤ) (d d' : ℕ) → r ≡ r' → d ≡ d'
    → (r_from : negsuc 0 ≤ℤ r) (r_from' : negsuc 0 ≤ℤ r') (d_from : 1 ≤ d) (d_from' : 1 ≤ d') (d_below : d < 2 ^ 63) (d_below' : d' < 2 ^ 63)
    → ◌≡◌ {A = Presentation}
    (record s { nodecount = r; divide_by = d; nodecount_from = r_from; divisor_from = d_from; divisor_below = d_below })
    (record s { nodecount = r'; divide_by = d'; nodecount_from = r_from'; divisor_from = d_from'; divisor_below = d_below' })
represented s r r' d d' er ed r_from r_from' d_from d_from' d_below d_below' = λ i. record s {
  nodecount = er i;
  divide_by = ed i;
  nodecount_from = is_prop→PathP (λ j. negsuc 0 ≤ℤ er j) (λ j. hlevel props) r_from r_from' i;
  divisor_from = is_prop→PathP (λ j. 1 ≤ ed j) (λ j. hlevel props) d_from d_from' i;
  divisor_below = is_prop→PathP (λ j. ed j < 2 ^ 63) (λ j. hlevel props) d_below d_below' i;
}

-- a configuration that shows alike, whatever shows that its numbers lie in their ranges
pub presented :
    (c : Config) (s : Presentation)
    (r_from : negsuc 0 ≤ℤ s.nodecount) (d_from : 1 ≤ s.divide_by) (d_below : s.divide_by < 2 ^ 63)
    → ◌≡◌ {A = Config}
    (record c { presentation = record s { nodecount_from = r_from; divisor_from = d_from; divisor_below = d_below } })
    (record c { presentation = s })
presented c s r_from d_from d_below =
    ap (λ (shown : Presentation). record c { presentation = shown })
    (represented s s.nodecount s.nodecount s.divide_by s.divide_by refl refl r_from s.nodecount_from d_from s.divisor_from d_below s.divisor_below)

-- a configuration that lends alike, whatever shows that its workers are 1 to 64
pub surrounded :
    (c : Config) (e : Environment) (w_from : 1 ≤ e.workers) (w_to : e.workers ≤ 64)
    → ◌≡◌ {A = Config}
    (record c { environment = record e { workers_from = w_from; workers_to = w_to } })
    (record c { environment = e })
surrounded c e w_from w_to =
    ap (λ (around : Environment). record c { environment = around })
    (same_environment _ _ (record { source_path = refl; trim_path = refl; workers = refl }))

-- the presentation with a number of rows from -1 on
pub nodecount_is :
    (s : Presentation) (r r' : ℤ) → r' ≡ r → int_le (negsuc 0) r ≡ true
    → (r_from : negsuc 0 ≤ℤ r') (d_from : 1 ≤ s.divide_by) (d_below : s.divide_by < 2 ^ 63)
    → ◌≡◌ {A = Presentation} (record s { nodecount = r'; nodecount_from = r_from; divisor_from = d_from; divisor_below = d_below }) (with_nodecount s r)
nodecount_is s (pos n) r' e h r_from d_from d_below = represented s r' (pos n) _ _ e refl _ _ _ _ _ _
nodecount_is s (negsuc zero) r' e h r_from d_from d_below = represented s r' (negsuc 0) _ _ e refl _ _ _ _ _ _
nodecount_is s (negsuc (suc n)) r' e h r_from d_from d_below =
    let below : suc n ≤ 0 = leb-true (suc n) 0 h in absurd (omega arith)

-- the presentation with a divisor from 1 to 2^63-1
pub divisor_is :
    (s : Presentation) (d : ℕ) → (nat_le 1 d && nat_lt d (2 ^ 63)) ≡ true
    → (r_from : negsuc 0 ≤ℤ s.nodecount) (d_from : 1 ≤ d) (d_below : d < 2 ^ 63)
    → ◌≡◌ {A = Presentation} (record s { divide_by = d; nodecount_from = r_from; divisor_from = d_from; divisor_below = d_below }) (with_divide_by s d)
divisor_is s d h r_from d_from d_below = represented s _ _ d d refl refl _ _ _ _ _ _ ∙ sym (where_true_is _ h _ s)

-- the environment with 1 to 64 workers
pub workers_is :
    (e : Environment) (w : ℕ) → (nat_le 1 w && nat_le w 64) ≡ true → (w_from : 1 ≤ w) (w_to : w ≤ 64)
    → ◌≡◌ {A = Environment} (record e { workers = w; workers_from = w_from; workers_to = w_to }) (with_workers e w)
workers_is e w h w_from w_to =
    same_environment _ _ (record { source_path = refl; trim_path = refl; workers = refl }) ∙ sym (where_true_is _ h _ e)

-- a fraction is known by its billionths
pub read_fraction_is :
    {A : Type 0} (make : Fraction → A) (found : Option Fraction) (read : Option ℕ) → option_map (λ (f : Fraction). f.billionths) found ≡ read
    → option_map make found ≡ option_map (λ n. make (fraction n)) read
read_fraction_is make None read e = ap (option_map (λ n. make (fraction n))) e
read_fraction_is make (Some part) read e =
    ap (λ (f : Fraction). Some (make f)) (fraction_is part) ∙ ap (option_map (λ n. make (fraction n))) e
