-- What announce and withdraw on an image say: what stands beside the case that holds (`TreeAnnounce`, `TreeWithdraw`), and nothing else. The cases by
-- the tests are known (Cases.antt, Takes.antt); here each test is put in words: a prefix, a hop of 1 to 32,767, an image that some input builds.
use mathlib.Core.Path.{◌≡◌, refl, sym, ◌∙◌, ap}
use mathlib.Core.Bool.{false, true≢false}
use mathlib.Core.List.{List}
use Prim.Native.Nat.{ℕ, ◌≤◌}
use Rattle.bits.proofs.Bools.{untrue}
use Rattle.routes.specs.Input.{proper_prefix, hop_fine}
use Rattle.routes.specs.Route.{Prefix}
use Rattle.routes.specs.Said.{Said}
use Rattle.routes.proofs.Meaning.{prefix-true, true-prefix, hop-true, true-hop}
use Rattle.tree_build.specs.Built.{ImageOut}
use Rattle.tree_formed.specs.Cases.{Narrow}
use Rattle.tree_formed.proofs.Exact.{passes-builds, builds-passes}
use Rattle.tree_formed.proofs.Judged.{not-built, no_image}
use Rattle.tree_theory.specs.Cases.{ImageAsked, Announcing, Withdrawing, Offered, TreeAnnounce, TreeWithdraw}
use Rattle.tree_theory.specs.Changed.{image_announced, image_withdrawn}
use Rattle.tree_theory.proofs.Cases.{case-announced, announce-cases}
use Rattle.tree_theory.proofs.Takes.{case-withdrawn, withdraw-cases}

improper : (a len : ℕ) → proper_prefix a len ≡ false → Prefix a len → ⊥
improper a len f p = true≢false (sym (true-prefix a len p) ∙ f)

no_prefix : (a len : ℕ) → (Prefix a len → ⊥) → proper_prefix a len ≡ false
no_prefix a len n = untrue (proper_prefix a len) (λ t. n (prefix-true a len t))

not-fine : (h : ℕ) → hop_fine h ≡ false → 1 ≤ h → h ≤ 32767 → ⊥
not-fine h f l u = true≢false (sym (true-hop h l u) ∙ f)

no_hop : (h : ℕ) → (1 ≤ h → h ≤ 32767 → ⊥) → hop_fine h ≡ false
no_hop h n = untrue (hop_fine h) (λ t. let k = hop-true h t in n k.0 k.1)

module _ (ws hs : List ℕ) (narrow : Narrow ws) where
  -- announce: 3, 4, 13, 6, 11, 12
  module _ (a len h : ℕ) where
    abbrev announced : ImageOut
    announced = image_announced ws hs a len h

    offered : ImageAsked ws hs a len h → Offered ws hs a len h
    offered k =
        let f = hop-true h k.hop in
        record { prefix = prefix-true a len k.prefix; hop_one = f.0; hop_ok = f.1; image = passes-builds ws hs narrow k.image }

    asked : Offered ws hs a len h → ImageAsked ws hs a len h
    asked k = record { prefix = true-prefix a len k.prefix; hop = true-hop h k.hop_one k.hop_ok; image = builds-passes ws hs k.image }

    is_said : {o : ImageOut} → Announcing ws hs a len h o → announced.said ≡ o.said
    is_said c = ap (λ (x : ImageOut). x.said) (case-announced ws hs a len h _ c)

    pub tree-announce-only : (s : Said) → TreeAnnounce ws hs a len h s → announced.said ≡ s
    tree-announce-only _ (TreeAnnounce.bad_prefix n) = is_said (Announcing.wrong_prefix (no_prefix a len n))
    tree-announce-only _ (TreeAnnounce.bad_hop p n) = is_said (Announcing.wrong_hop (true-prefix a len p) (no_hop h n))
    tree-announce-only _ (TreeAnnounce.bad_image p l u n) = is_said (Announcing.wrong_image (true-prefix a len p) (true-hop h l u) (no_image ws hs narrow n))
    tree-announce-only _ (TreeAnnounce.too_many k l) = is_said (Announcing.too_many (asked k) l)
    tree-announce-only _ (TreeAnnounce.few_nodes k l u) = is_said (Announcing.nodes_short (asked k) l u)
    tree-announce-only _ (TreeAnnounce.few_hops k l u v) = is_said (Announcing.hops_short (asked k) l u v)
    tree-announce-only _ (TreeAnnounce.done k l u v) = is_said (Announcing.put_in (asked k) l u v)

    pub tree-announce-judged : TreeAnnounce ws hs a len h announced.said
    tree-announce-judged = go ((announce-cases ws hs a len h _).0 refl)
      where
        go : {o : ImageOut} → Announcing ws hs a len h o → TreeAnnounce ws hs a len h o.said
        go (Announcing.wrong_prefix e) = TreeAnnounce.bad_prefix (improper a len e)
        go (Announcing.wrong_hop e f) = TreeAnnounce.bad_hop (prefix-true a len e) (not-fine h f)
        go (Announcing.wrong_image e f g) =
            let k = hop-true h f in
            TreeAnnounce.bad_image (prefix-true a len e) k.0 k.1 (not-built ws hs g)
        go (Announcing.too_many k l) = TreeAnnounce.too_many (offered k) l
        go (Announcing.nodes_short k l u) = TreeAnnounce.few_nodes (offered k) l u
        go (Announcing.hops_short k l u v) = TreeAnnounce.few_hops (offered k) l u v
        go (Announcing.put_in k l u v) = TreeAnnounce.done (offered k) l u v

  -- withdraw: 3, 13, 9
  module _ (a len : ℕ) where
    abbrev withdrawn : ImageOut
    withdrawn = image_withdrawn ws hs a len

    is-told : {o : ImageOut} → Withdrawing ws hs a len o → withdrawn.said ≡ o.said
    is-told c = ap (λ (x : ImageOut). x.said) (case-withdrawn ws hs a len narrow _ c)

    pub tree-withdraw-only : (s : Said) → TreeWithdraw ws hs a len s → withdrawn.said ≡ s
    tree-withdraw-only _ (TreeWithdraw.bad_prefix n) = is-told (Withdrawing.no_prefix (no_prefix a len n))
    tree-withdraw-only _ (TreeWithdraw.bad_image p n) = is-told (Withdrawing.no_image (true-prefix a len p) (no_image ws hs narrow n))
    tree-withdraw-only _ (TreeWithdraw.absent p b e) = is-told (Withdrawing.no_route (true-prefix a len p) (builds-passes ws hs b) e)
    tree-withdraw-only _ (TreeWithdraw.removed p b e) = is-told (Withdrawing.taken_out (true-prefix a len p) (builds-passes ws hs b) e)

    pub tree-withdraw-judged : TreeWithdraw ws hs a len withdrawn.said
    tree-withdraw-judged = go ((withdraw-cases ws hs a len narrow _).0 refl)
      where
        go : {o : ImageOut} → Withdrawing ws hs a len o → TreeWithdraw ws hs a len o.said
        go (Withdrawing.no_prefix e) = TreeWithdraw.bad_prefix (improper a len e)
        go (Withdrawing.no_image e f) = TreeWithdraw.bad_image (prefix-true a len e) (not-built ws hs f)
        go (Withdrawing.no_route e f g) = TreeWithdraw.absent (prefix-true a len e) (passes-builds ws hs narrow f) g
        go (Withdrawing.taken_out e f g) = TreeWithdraw.removed (prefix-true a len e) (passes-builds ws hs narrow f) g
