-- What the tests of the code say of the walk: a law for each return and each step of the loop.
use Rattle.std.specs.Prelude.{Option, Some, None, Ok, Err}
use mathlib.Core.Path.{◌≡◌, sym, ap, ◌∙◌}
use mathlib.Core.Bool.{Bool, true, false, cond, not}
use mathlib.Core.List.{List}
use Prim.Native.Nat.{ℕ, zero, suc, ◌+◌, ◌-◌, ◌/◌, ◌%◌, ◌^◌, ◌<◌, ◌≤◌}
use native.Mathlib.Omega.{arith}
use lib.ListN.{length, get_or}
use lib.Count.{ones}
use borrow.Author.Tests.{not-true, not-false, lt-ltb, le-ltb, ne_eqb}
use Rattle.routes.specs.Answers.{means_found}
use Rattle.routes.specs.Said.{Said, refused, said_plainly}
use Rattle.routes.specs.Input.{hop_fine}
use Rattle.routes.proofs.Meaning.{hop-true}
use Rattle.tree_image.specs.Node.{bits_of, child_of, base_of, is_set, sound, nibble_of, try_bit, deepest_of, better_of, child_at}
use Rattle.tree_image.specs.Walk.{tree_hop_said, fetched_from, last_match, inner_match, walk_from}
use Rattle.refusals.specs.declared.Refusal.TheVariants.{Broken}

-- a test of a bit, as the code makes it
pub try-hit : (w b : ℕ) (rest : Option ℕ) (t : Bool) → t ≡ is_set w b → t ≡ true → Some b ≡ try_bit w b rest
unfolding try_bit
try-hit w b rest t e h = rw (← e, h)

pub try-miss : (w b : ℕ) (rest x : Option ℕ) (t : Bool) → t ≡ is_set w b → t ≡ false → x ≡ rest → x ≡ try_bit w b rest
unfolding try_bit
try-miss w b rest x t e h q = rw (← e, h) q

pub deepest-is : (w v : ℕ) (x : Option ℕ) → x ≡ try_bit w (7 + v / 2) (try_bit w (3 + v / 4) (try_bit w (1 + v / 8) (try_bit w 0 None))) → x ≡ deepest_of w v
unfolding deepest_of
deepest-is w v x e = e

pub better-none : (w base : ℕ) (b best : Option ℕ) → b ≡ None → best ≡ better_of w base b best
unfolding better_of
better-none w base b best e = rw e

pub better-at : (w base : ℕ) (b best : Option ℕ) (bit y : ℕ) → b ≡ Some bit → y ≡ ones (w % 2 ^ bit) → Some (base + y) ≡ better_of w base b best
unfolding better_of
better-at w base b best bit y e f = rw (e, f)

-- the hop that is read
module _ (hs : List ℕ) (n : ℕ) (best : Option ℕ) where
  pub fetch-none : best ≡ None → means_found (Ok (record { hop = None; reads = n })) ≡ fetched_from hs n best
  unfolding said_plainly fetched_from tree_hop_said
  fetch-none e = rw e

  module _ (h : ℕ) (e : best ≡ Some h) where
    pub fetch-past : length hs ≤ h → means_found (Err Broken) ≡ fetched_from hs n best
    unfolding said_plainly fetched_from
    fetch-past p = rw (e, le-ltb h (length hs) p)

    module _ (p : h < length hs) where
      pub fetch-bad : (t : Bool) → t ≡ hop_fine (get_or hs h 0) → not t ≡ true → means_found (Err Broken) ≡ fetched_from hs n best
      unfolding said_plainly fetched_from
      fetch-bad t et f = rw (e, lt-ltb h (length hs) p, ← et, not-true t f)

      pub fetch-hop : (t : Bool) → t ≡ hop_fine (get_or hs h 0) → not t ≡ false → means_found (Ok (record { hop = Some (get_or hs h 0); reads = n + 1 })) ≡ fetched_from hs n best
      unfolding said_plainly fetched_from tree_hop_said
      fetch-hop t et f =
          let fine : hop_fine (get_or hs h 0) ≡ true = sym et ∙ not-false t f in
          rw (e, lt-ltb h (length hs) p, fine, ne_eqb (get_or hs h 0) 0 (λ z. let k = hop-true (get_or hs h 0) fine in omega (arith, k.0)))

-- the walk at node i, with d levels below it; `said` is what it says
module _ (ws hs : List ℕ) (a d i : ℕ) (best : Option ℕ) (said : Said) (walks : walk_from d ws hs a i best ≡ said) where
  not_sound : sound ws i ≡ false → means_found (Err Broken) ≡ said
  unfolding said_plainly walk_from
  not_sound e = go d ∙ walks
    where
      go : (d : ℕ) → refused 13 ≡ walk_from d ws hs a i best
      go zero = rw e
      go (suc d) = rw e

  pub walk-past : length ws / 3 ≤ i → means_found (Err Broken) ≡ said
  unfolding sound
  walk-past p = not_sound (rw (le-ltb i (length ws / 3) p))

  module _ (p : i < length ws / 3) (t : Bool) (e : t ≡ is_set (bits_of ws i) 15) where
    pub walk-broken : t ≡ true → means_found (Err Broken) ≡ said
    unfolding sound
    walk-broken h = not_sound (rw (lt-ltb i (length ws / 3) p, ← e, h))

    module _ (h : t ≡ false) where
      is-sound : sound ws i ≡ true
      unfolding sound
      is-sound = rw (lt-ltb i (length ws / 3) p, ← e, h)

      pub walk-last : d ≡ 0 → (b x : Option ℕ) (r : Said) → b ≡ try_bit (bits_of ws i) 0 None → x ≡ better_of (bits_of ws i) (base_of ws i) b best → r
          ≡ fetched_from hs 9 x → r ≡ said
      unfolding walk_from
      walk-last z b x r eb ex er =
          let q : fetched_from hs 9 (last_match ws i best) ≡ walk_from d ws hs a i best = rw (z, is-sound) in
          rw (er, ex, eb) q ∙ walks

      module _ (z : d ≡ 0 → ⊥) (v : ℕ) (ev : v ≡ nibble_of a (d - 1)) (b : Option ℕ) (eb : b ≡ deepest_of (bits_of ws i) v) (x : Option ℕ)
          (ex : x ≡ better_of (bits_of ws i) (base_of ws i) b best) (s : Bool) (es : s ≡ is_set (bits_of ws i) (16 + v)) where
        walk-inner : cond s (walk_from (d - 1) ws hs a (child_at (bits_of ws i) (child_of ws i) v) x) (fetched_from hs (8 - (d - 1)) x) ≡ said
        unfolding walk_from
        walk-inner =
            let q : suc (d - 1) ≡ d = omega arith in
            rw (es, ex, eb, ev) (ap (λ (t : Bool). cond t
            (cond (is_set (bits_of ws i) (16 + nibble_of a (d - 1)))
            (walk_from (d - 1) ws hs a (child_at (bits_of ws i) (child_of ws i) (nibble_of a (d - 1))) (inner_match ws i (nibble_of a (d - 1)) best))
            (fetched_from hs (8 - (d - 1)) (inner_match ws i (nibble_of a (d - 1)) best))) (refused 13)) (sym is-sound)
            ∙ ap (λ (k : ℕ). walk_from k ws hs a i best) q) ∙ walks

        pub walk-stop : (r : Said) → not s ≡ true → r ≡ fetched_from hs (8 - (d - 1)) x → r ≡ said
        walk-stop r f er = er ∙ (rw (not-true s f) at walk-inner)

        pub walk-down : (j : ℕ) → not s ≡ false → j ≡ child_at (bits_of ws i) (child_of ws i) v → walk_from (d - 1) ws hs a j x ≡ said
        walk-down j f ej = rw ej (rw (not-false s f) at walk-inner)
