-- Why the fence was lowered.
use Rattle.std.proofs.Common.{◌≡◌, ℕ, ◌⊎◌, inl, inr, ⊎_elim, ap, ◌∙◌, arith}
use Rattle.std.specs.Prelude.{Result, Ok, Err, is_err, OnErr, true}
use Rattle.fd_crew.specs.declared.fence.View.{View}
use Rattle.fd_crew.specs.Fence.{front_view, back_view, joined_view}

pub on_err : {A E : Type 0} (r : Result A E) (P : Type 0) → is_err r ≡ true → OnErr r P → P
on_err (Ok a) P e h = absurd (cc)
on_err (Err x) P e h = h

module _ (P : Type 0) where
  -- one after the other
  pub lowered_then : (a b c : ℕ) → (b ≡ a) ⊎ P → (c ≡ b) ⊎ P → (c ≡ a) ⊎ P
  lowered_then a b c f g = ⊎_elim (λ x. ⊎_elim (λ y. inl (y ∙ x)) (λ p. inr p) g) (λ p. inr p) f

  -- side by side
  pub lowered_both : (v fv bv a b j : View) → fv ≡ front_view v → bv ≡ back_view v → j ≡ joined_view a b → (a.low ≡ fv.low) ⊎ P → (b.low ≡ bv.low) ⊎ P
      → (j.low ≡ v.low) ⊎ P
  lowered_both v fv bv a b j ef eb ej f g =
      let low : View → ℕ = λ u. u.low in
      ⊎_elim (λ x. ⊎_elim (λ y. inl (omega (arith, x, y, ap low ef, ap low eb, ap low ej))) (λ p. inr p) g) (λ p. inr p) f

  pub not_reached : (at low opening target : ℕ) → at ≡ low → opening ≡ target → ¬ (at ≡ target) → (low ≡ opening) ⊎ P → P
  not_reached at low opening target is from other f = ⊎_elim (λ same. absurd (other (is ∙ same ∙ from))) (λ p. p) f
