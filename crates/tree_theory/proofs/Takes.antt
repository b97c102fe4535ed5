-- Withdraw on an image, case by case: the outcome is one of the cases, and its condition decides which; a refusal leaves both arrays, and a prefix
-- that stands is always taken out.
use mathlib.Core.Path.{◌≡◌, refl, sym, ◌∙◌, ap, subst}
use mathlib.Core.Logic.{◌⊎◌, inl, inr, ◌↔◌}
use mathlib.Core.Bool.{true, false, true≢false}
use mathlib.Core.List.{List, [], ◌∷◌}
use Prim.Native.Nat.{ℕ, ◌^◌, ◌<◌}
use native.Mathlib.Omega.{arith}
use lib.ListN.{length, get_or}
use Rattle.bits.proofs.Bools.{decided}
use Rattle.routes.specs.Input.{proper_prefix}
use Rattle.routes.specs.Route.{key_of}
use Rattle.routes.specs.Said.{accepts}
use Rattle.routes.specs.declared.Route.{Route}
use Rattle.standing.specs.Standing.{stands}
use Rattle.standing.proofs.Standing.{remove-good, remove-length}
use Rattle.tree_image.specs.Image.{node_need}
use Rattle.tree_build.specs.Built.{ImageOut}
use Rattle.tree_same.specs.Listed.{routes_held}
use Rattle.tree_formed.specs.WellFormed.{well_formed}
use Rattle.tree_theory.specs.Changed.{taken_from, image_withdrawn}
use Rattle.tree_theory.specs.Cases.{routes_without, image_in, Fitted, Withdrawing, no_prefix, no_image, no_route, taken_out}
use Rattle.tree_theory.proofs.Needs.{fewer-nodes}
use Rattle.tree_formed.proofs.Exact.{made-fits}
use Rattle.tree_theory.proofs.Cases.{its-fit}

module _ (ws hs : List ℕ) (a len : ℕ) (narrow : (j : ℕ) → get_or ws j 0 < 2 ^ 32) where
  abbrev rs' : List Route
  rs' = routes_without ws hs a len

  -- the routes left need no more: neither 11 nor 12
  pub left-fit : well_formed ws hs ≡ true → stands (key_of a len) (routes_held ws hs) ≡ true → Fitted rs' ws hs
  left-fit f s =
      let r = its-fit ws hs narrow f in
      let n = fewer-nodes (key_of a len) (routes_held ws hs) r.good s in
      let l = remove-length (key_of a len) (routes_held ws hs) in
      record {
        good = remove-good (key_of a len) (routes_held ws hs) r.good;
        few = omega (arith, r.few);
        nodes = omega (arith, r.nodes);
        hops = omega (arith, r.hops);
      }

  pub case-withdrawn : (o : ImageOut) → Withdrawing ws hs a len o → image_withdrawn ws hs a len ≡ o
  unfolding image_withdrawn taken_from
  case-withdrawn o (no_prefix e) = rw e refl
  case-withdrawn o (no_image e f) = rw (e, f) refl
  case-withdrawn o (no_route e f g) = rw (e, f, g) refl
  case-withdrawn o (taken_out e f g) = let r = left-fit f g in rw (e, f, g) (made-fits rs' ws hs r.nodes r.hops)

  some-case : (proper_prefix a len ≡ true) ⊎ (proper_prefix a len ≡ false) → (well_formed ws hs ≡ true) ⊎ (well_formed ws hs ≡ false)
      → (stands (key_of a len) (routes_held ws hs) ≡ true) ⊎ (stands (key_of a len) (routes_held ws hs) ≡ false) → (o : ImageOut) × Withdrawing ws hs a len o
  some-case (inr e) f g = (_, no_prefix e)
  some-case (inl e) (inr f) g = (_, no_image e f)
  some-case (inl e) (inl f) (inr g) = (_, no_route e f g)
  some-case (inl e) (inl f) (inl g) = (_, taken_out e f g)

  pub withdraw-cases : (o : ImageOut) → (image_withdrawn ws hs a len ≡ o) ↔ Withdrawing ws hs a len o
  withdraw-cases o = (into, case-withdrawn o)
    where
      into : image_withdrawn ws hs a len ≡ o → Withdrawing ws hs a len o
      into e =
          let c = some-case (decided (proper_prefix a len)) (decided (well_formed ws hs)) (decided (stands (key_of a len) (routes_held ws hs))) in
          subst (Withdrawing ws hs a len) (sym (case-withdrawn c.0 c.1) ∙ e) c.1

  abbrev after : ImageOut
  after = image_withdrawn ws hs a len

  pub withdraw-leaves : accepts after.said ≡ false → (after.words ≡ ws) × (after.hops ≡ hs)
  withdraw-leaves f = go after ((withdraw-cases after).0 refl) f
    where
      go : (o : ImageOut) → Withdrawing ws hs a len o → accepts o.said ≡ false → (o.words ≡ ws) × (o.hops ≡ hs)
      go o (no_prefix e) u = (refl, refl)
      go o (no_image e g) u = (refl, refl)
      go o (no_route e g k) u = (refl, refl)
      go o (taken_out e g k) u = absurd (true≢false u)

  pub record TakenOut : Type 0 where
    pub prefix : proper_prefix a len ≡ true
    pub image : well_formed ws hs ≡ true
    pub stood : stands (key_of a len) (routes_held ws hs) ≡ true
    pub told : after ≡ image_in rs' ws hs (node_need rs' ∷ length rs' ∷ [])

  pub withdraw-taken : accepts after.said ≡ true → TakenOut
  withdraw-taken f = go after refl ((withdraw-cases after).0 refl) f
    where
      go : (o : ImageOut) → after ≡ o → Withdrawing ws hs a len o → accepts o.said ≡ true → TakenOut
      go o q (no_prefix e) u = absurd (true≢false (sym u))
      go o q (no_image e g) u = absurd (true≢false (sym u))
      go o q (no_route e g k) u = absurd (true≢false (sym u))
      go o q (taken_out e g k) u = record { prefix = e; image = g; stood = k; told = q }

  -- a prefix that stands in a well-formed image is always taken out
  pub withdrawn-fits : proper_prefix a len ≡ true → well_formed ws hs ≡ true → stands (key_of a len) (routes_held ws hs) ≡ true → accepts after.said ≡ true
  withdrawn-fits e f g = ap (λ (o : ImageOut). accepts o.said) (case-withdrawn _ (taken_out e f g))
