-- What the whole test answers, the nodes in use or none, and what follows from each.
use mathlib.Core.Path.{◌≡◌, refl, sym, ◌∙◌, ap, ap₂}
use mathlib.Core.Logic.{◌⊎◌, inl, inr}
use mathlib.Core.Bool.{true, false}
use mathlib.Core.List.{List, [], ◌∷◌}
use Prim.Native.Nat.{ℕ, ◌*◌, ◌^◌, ◌≤◌, ◌<◌}
use native.Mathlib.Omega.{arith}
use lib.ListN.{length, get_or}
use Rattle.bits.proofs.Bools.{decided}
use Rattle.std.specs.Prelude.{Option, Some, None, Ok, Err}
use Rattle.routes.specs.Said.{accepted, said_plainly}
use Rattle.tree_image.proofs.Needs.{nodes-most}
use Rattle.tree_same.specs.Order.{ints}
use Rattle.tree_same.specs.Listed.{routes_held}
use Rattle.tree_formed.specs.WellFormed.{nodes_used, ordered, well_formed, nodes_if, nodes_where}
use Rattle.tree_formed.specs.Answers.{means_tested, tested}
use Rattle.refusals.specs.declared.Refusal.TheVariants.{Broken}
use Rattle.tree_formed.proofs.Meaning.{WellFormed, well-formed-is, is-ordered}
use Rattle.tree_formed.proofs.Held.{held-good, held-nodes, held-hops}

module _ (ws hs : List ℕ) where
  pub check-broken : None ≡ nodes_where (well_formed ws hs) ws → well_formed ws hs ≡ false
  check-broken e = go (decided (well_formed ws hs))
    where
      go : (well_formed ws hs ≡ true) ⊎ (well_formed ws hs ≡ false) → well_formed ws hs ≡ false
      go (inl t) = let q : ◌≡◌ {A = Option ℕ} None (Some (nodes_used ws)) = rw t at e in cc
      go (inr t) = t

  pub tested-broken : None ≡ nodes_where (well_formed ws hs) ws → means_tested (Err Broken) ≡ tested ws hs
  unfolding said_plainly tested
  tested-broken e = rw (check-broken e) refl

  module _ (n : ℕ) (e : Some n ≡ nodes_where (well_formed ws hs) ws) where
    formed : well_formed ws hs ≡ true → (well_formed ws hs ≡ true) × (n ≡ nodes_used ws) × WellFormed ws hs n
    formed t =
        let s : Some n ≡ Some (nodes_used ws) = rw t at e in
        let q : n ≡ nodes_used ws = cc in
        (t, q, rw q (well-formed-is ws hs t))

    pub check-formed : (well_formed ws hs ≡ true) × (n ≡ nodes_used ws) × WellFormed ws hs n
    check-formed = go (decided (well_formed ws hs))
      where
        go : (well_formed ws hs ≡ true) ⊎ (well_formed ws hs ≡ false) → (well_formed ws hs ≡ true) × (n ≡ nodes_used ws) × WellFormed ws hs n
        go (inl t) = formed t
        go (inr t) = let q : Some n ≡ None = rw t at e in cc

    -- what is asked where the hops are counted
    pub check-hops-in : (0 < n) × (3 * n ≤ length ws) × (n ≡ nodes_if (ordered ws) ws)
    check-hops-in =
        let o = check-formed.2.order in
        let u = is-ordered ws n o in
        (omega (arith, o.whole), omega (arith, o.lent), rw u.1 (sym u.0))

    pub check-few : ((j : ℕ) → get_or ws j 0 < 2 ^ 32) → (n ≤ 32769) × (ints ws n ≤ 4096)
    check-few narrow =
        let w = check-formed.2 in
        let rs = routes_held ws hs in
        let k = nodes-most (routes_held ws hs) (held-good ws hs n w narrow) (omega (arith, w.few, held-hops ws hs n w narrow)) in
        (omega (arith, k, held-nodes ws hs n w narrow), w.few)

    pub tested-image : (k x y : ℕ) → k ≡ ints ws n → x ≡ n → y ≡ k → means_tested (Ok (record { nodes = x; hops = y })) ≡ tested ws hs
    unfolding said_plainly tested
    tested-image k x y ek ex ey =
        let f = check-formed in
        rw f.0 (ap₂ (λ (a b : ℕ). accepted (a ∷ b ∷ [])) (ex ∙ f.1) (ey ∙ ek ∙ ap (ints ws) f.1))
