-- What announce and withdraw say at each return, and that it is what the definitions say.
use Rattle.std.specs.Prelude.{Some, None, Err}
use Rattle.refusals.specs.declared.Refusal.TheVariants as refusal
use Rattle.routes.specs.Said.{said_plainly}
use mathlib.Core.Path.{◌≡◌, refl, sym, ◌∙◌, ap, subst}
use mathlib.Core.Bool.{Bool, true, false}
use mathlib.Core.List.{List}
use Prim.Native.Nat.{ℕ, ◌^◌, ◌<◌}
use lib.ListN.{get_or}
use Rattle.routes.specs.Input.{proper_prefix, hop_fine}
use Rattle.routes.specs.Route.{key_of, Prefix, Fine}
use Rattle.routes.proofs.Meaning.{prefix-true}
use Rattle.tree_build.specs.Built.{ImageOut, image_out}
use Rattle.tree_same.specs.Listed.{routes_held}
use Rattle.tree_formed.specs.WellFormed.{well_formed, nodes_where}
use Rattle.tree_formed.proofs.Held.{held-good, held-holds}
use Rattle.tree_formed.proofs.TestReturns.{check-broken, check-formed, check-hops-in, check-few}
use Rattle.tree_theory.specs.Changed.{means_tree_announced, means_tree_withdrawn, unmarked_route, put_to, taken_from, image_announced, image_withdrawn}
use Rattle.tree_theory.specs.Stages.{ImageFormed}
use Rattle.tree_theory.proofs.Cases.{is-fine}

-- the test passed
pub is-formed : (ws hs : List ℕ) (n : ℕ) → ((j : ℕ) → get_or ws j 0 < 2 ^ 32) → Some n ≡ nodes_where (well_formed ws hs) ws → ImageFormed ws hs n
is-formed ws hs n narrow e =
    let w = (check-formed ws hs n e).2 in
    let c = check-few ws hs n e narrow in
    let o = check-hops-in ws hs n e in
    record {
      found = record { good = held-good ws hs n w narrow; holds = held-holds ws hs n w narrow; hops = refl; few_nodes = c.0; few_hops = c.1 };
      nodes = o.2;
      lent = (o.0, o.1);
    }

-- a prefix that passed its test, and a hop that passed its own
pub record PassedPrefix : Type 0 where
  pub a : ℕ
  pub len : ℕ
  pub is : proper_prefix a len ≡ true

abbrev pub proper : (a len : ℕ) {t : Bool} → t ≡ proper_prefix a len → t ≡ true → PassedPrefix
proper a len e q = record { a = a; len = len; is = sym e ∙ q }

pub record PassedHop : Type 0 where
  pub h : ℕ
  pub is : hop_fine h ≡ true

abbrev pub fine : (h : ℕ) {t : Bool} → t ≡ hop_fine h → t ≡ true → PassedHop
fine h e q = record { h = h; is = sym e ∙ q }

-- the prefix and the route of them; the length goes on as a wider number
pub passed-prefix : (p : PassedPrefix) {l : ℕ} → l ≡ p.len → Prefix p.a l
passed-prefix p e = subst (λ (z : ℕ). Prefix p.a z) (sym e) (prefix-true p.a p.len p.is)

pub passed-route : (p : PassedPrefix) (f : PassedHop) {l : ℕ} → l ≡ p.len → Fine (unmarked_route p.a l f.h)
passed-route p f e = subst (λ (z : ℕ). Fine (unmarked_route p.a z f.h)) (sym e) (is-fine p.a p.len f.h p.is f.is)

module _ (ws hs : List ℕ) where
  pub announced-three : (a len h : ℕ) (t : Bool) → t ≡ proper_prefix a len → t ≡ false
      → image_out (means_tree_announced (Err refusal.Prefix)) ws hs ≡ image_announced ws hs a len h
  unfolding said_plainly image_announced
  announced-three a len h t e q = rw (sym e ∙ q) refl

  pub withdrawn-three : (a len : ℕ) (t : Bool) → t ≡ proper_prefix a len → t ≡ false
      → image_out (means_tree_withdrawn (Err refusal.Prefix)) ws hs ≡ image_withdrawn ws hs a len
  unfolding said_plainly image_withdrawn
  withdrawn-three a len t e q = rw (sym e ∙ q) refl

  module _ (p : PassedPrefix) where
    pub announced-four : (h : ℕ) (u : Bool) → u ≡ hop_fine h → u ≡ false
        → image_out (means_tree_announced (Err refusal.Hop)) ws hs ≡ image_announced ws hs p.a p.len h
    unfolding said_plainly image_announced
    announced-four h u e q = rw (p.is, sym e ∙ q) refl

    module _ (e : None ≡ nodes_where (well_formed ws hs) ws) where
      pub withdrawn-broken : image_out (means_tree_withdrawn (Err refusal.Broken)) ws hs ≡ image_withdrawn ws hs p.a p.len
      unfolding said_plainly image_withdrawn
      withdrawn-broken = rw (p.is, check-broken ws hs e) refl

      pub announced-broken : (f : PassedHop) → image_out (means_tree_announced (Err refusal.Broken)) ws hs ≡ image_announced ws hs p.a p.len f.h
      unfolding said_plainly image_announced
      announced-broken f = rw (p.is, f.is, check-broken ws hs e) refl

    module _ (n : ℕ) (e : Some n ≡ nodes_where (well_formed ws hs) ws) where
      pub withdrawn-formed : {l : ℕ} → l ≡ p.len → {o : ImageOut} → o ≡ taken_from (routes_held ws hs) (key_of p.a l) ws hs
          → o ≡ image_withdrawn ws hs p.a p.len
      unfolding image_withdrawn
      withdrawn-formed el q =
          rw (p.is, (check-formed ws hs n e).0) (q ∙ ap (λ (y : ℕ). taken_from (routes_held ws hs) (key_of p.a y) ws hs) el)

      pub announced-formed : (f : PassedHop) → {l : ℕ} → l ≡ p.len → {o : ImageOut}
          → o ≡ put_to (routes_held ws hs) (unmarked_route p.a l f.h) ws hs → o ≡ image_announced ws hs p.a p.len f.h
      unfolding image_announced
      announced-formed f el q =
          rw (p.is, f.is, (check-formed ws hs n e).0) (q ∙ ap (λ (y : ℕ). put_to (routes_held ws hs) (unmarked_route p.a y f.h) ws hs) el)
