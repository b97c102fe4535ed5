-- The two loops over a message's fields: where they start, one entry more, the stop, the end. What is dealt to, and what one entry does to it, are
-- parameters: a table and each party of two have these laws alike.
use mathlib.Core.Path.{◌≡◌, refl, sym, ap, ◌∙◌}
use mathlib.Core.List.{List, [], ◌∷◌, ◌++◌, map}
use Prim.Native.Nat.{ℕ, suc, ◌+◌, ◌%◌, ◌^◌, ◌≤◌, ◌<◌}
use native.Mathlib.Omega.{arith}
use lib.ListN.{length, drop}
use Rattle.fields.specs.Field.{Net, entries}
use Rattle.fields.specs.Entry.{EntryAt, IsEntry, FieldFrom}
use Rattle.fields.specs.declared.entry.Entry.{Entry as Read}
use Rattle.fields.proofs.Reading.{entry_here, entry-on, entries-here, entries-end}
use Rattle.update_theory.specs.Deal.{Entry, goes, comes, Turn, Dealt, deal_by}
use Rattle.update_theory.specs.Loops.{Going, Gone, Coming, Came}
use Rattle.update_theory.proofs.Deals.{deal-more, deal-stop, deal-end}

-- a prefix by itself
abbrev pub net : ℕ → ℕ → Net
net a len = record { addr = a; len = len }

-- what is left of a field after an entry
rest_of : (s : List ℕ) (at : ℕ) → FieldFrom s at → at < length s → (x : Read) → IsEntry s at x
    → entries (drop at s) ≡ net x.addr x.len ∷ entries (drop x.next s)
rest_of s at f h x i = entries-here s at f h x.next i.next ∙ ap (λ (n : Net). n ∷ entries (drop x.next s)) (sym i.net)

-- the place moves on
pub next_past : (s : List ℕ) (at : ℕ) (x : Read) → IsEntry s at x → at < x.next
next_past s at x i = omega (arith, i.next)

module _ {S : Type 0} (steps : ℕ → S → Entry → Turn S) (s₀ : S) (field : List ℕ) where
  pub going_start : FieldFrom field 0 → Going steps s₀ field 0 0 s₀
  going_start f = record { from = f; many = 0; told = refl; deals = λ hop rest. refl }

  module _ {k at : ℕ} {s : S} (g : Going steps s₀ field k at s) where
    pub going_end : length field ≤ at → Gone steps s₀ field k s
    going_end h = record {
      many = g.many;
      told = g.told;
      deals = λ hop rest.
          g.deals hop rest ∙ ap (λ (x : List Net). deal_by (steps hop) g.many s (map goes x ++ rest)) (entries-end field at g.from h);
    }

    module _ (h : at < length field) where
      pub going-entry : EntryAt field at
      going-entry = entry_here field at g.from h

      pub going_more : (x : Read) → IsEntry field at x → {j : ℕ} → j ≡ (k + 1) % 2 ^ 32 → {s' : S}
          → ((hop : ℕ) → (steps hop s (goes (net x.addr x.len))).stop ≡ 0) → ((hop : ℕ) → (steps hop s (goes (net x.addr x.len))).state ≡ s')
          → Going steps s₀ field j x.next s'
      going_more x i q stop state = record {
        from = entry-on field at g.from h x.next i.next;
        many = suc g.many;
        told = omega (arith, g.told);
        deals = λ hop rest.
            let tail : List Entry = map goes (entries (drop x.next field)) ++ rest in
            g.deals hop rest
            ∙ ap (λ (ns : List Net). deal_by (steps hop) g.many s (map goes ns ++ rest)) (rest_of field at g.from h x i)
            ∙ deal-more (steps hop) g.many s (goes (net x.addr x.len)) tail (stop hop)
            ∙ ap (λ (y : S). deal_by (steps hop) (suc g.many) y tail) (state hop);
      }

  module _ (hop first : ℕ) where
    pub coming-start : FieldFrom field 0 → Coming steps s₀ field hop first first 0 s₀
    coming-start f = record { rest = f; deals = λ m q. (m, q, refl) }

    module _ {k at : ℕ} {s : S} (g : Coming steps s₀ field hop first k at s) where
      pub coming-end : length field ≤ at → Came steps s₀ field hop first 0 k s
      coming-end h = record {
        is = λ m q.
            let z = g.deals m q in
            let none = ap (λ (x : List Net). deal_by (steps hop) z.0 s (map comes x)) (entries-end field at g.rest h) in
            (record { stop = 0; dealt = z.0; state = s }, z.2 ∙ none ∙ deal-end (steps hop) z.0 s, refl, z.1, refl);
      }

      module _ (h : at < length field) where
        pub coming-entry : EntryAt field at
        coming-entry = entry_here field at g.rest h

        module _ (x : Read) (i : IsEntry field at x) {number : ℕ} {s' : S} (stop : (steps hop s (comes (net x.addr x.len))).stop ≡ number)
            (state : (steps hop s (comes (net x.addr x.len))).state ≡ s') where
          abbrev e : Entry
          e = comes (net x.addr x.len)

          abbrev tail : List Entry
          tail = map comes (entries (drop x.next field))

          next-is : (many : ℕ) → deal_by (steps hop) many s (map comes (entries (drop at field))) ≡ deal_by (steps hop) many s (e ∷ tail)
          next-is many = ap (λ (ns : List Net). deal_by (steps hop) many s (map comes ns)) (rest_of field at g.rest h x i)

          pub coming-stop : (number ≡ 0 → ⊥) → Came steps s₀ field hop first number k s'
          coming-stop n = record {
            is = λ m q.
                let z = g.deals m q in (
                  record { stop = (steps hop s e).stop; dealt = z.0; state = (steps hop s e).state },
                  z.2 ∙ next-is z.0 ∙ deal-stop (steps hop) z.0 s e tail (λ y. n (sym stop ∙ y)),
                  stop,
                  z.1,
                  state,
                );
          }

          pub coming-more : number ≡ 0 → {j : ℕ} → j ≡ (k + 1) % 2 ^ 32 → Coming steps s₀ field hop first j x.next s'
          coming-more n w = record {
            rest = entry-on field at g.rest h x.next i.next;
            deals = λ m q.
                let z = g.deals m q in (
                  suc z.0,
                  omega (arith, z.1),
                  z.2 ∙ next-is z.0 ∙ deal-more (steps hop) z.0 s e tail (stop ∙ n)
                      ∙ ap (λ (y : S). deal_by (steps hop) (suc z.0) y tail) state,
                );
          }

-- a whole message: withdrawals, then announcements
pub message-is : {S : Type 0} (steps : ℕ → S → Entry → Turn S) (s₀ s : S) (wd re : List ℕ) (hop : ℕ) {k number j : ℕ} {s' : S} → Gone steps s₀ wd k s
    → Came steps s re hop k number j s'
    → (d : Dealt S) × (deal_by (steps hop) 0 s₀ (map goes (entries wd) ++ map comes (entries re)) ≡ d) × (d.stop ≡ number) × (j ≡ d.dealt % 2 ^ 32)
    × (d.state ≡ s')
message-is steps s₀ s wd re hop gone came =
    let x = came.is gone.many gone.told in
    (x.0, gone.deals hop (map comes (entries re)) ∙ x.1, x.2, x.3, x.4)
