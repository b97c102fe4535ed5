-- Inputs of many records: 0.0.0.0/16, 0.1.0.0/16 and so on. They are good up to 4,096 records, and refused with 6 beyond; no route of them
-- needs a chunk of the standard geometry.
use mathlib.Core.Path.{◌≡◌, refl, ◌∙◌, subst}
use mathlib.Core.Logic.{◌⊎◌, inl, inr}
use mathlib.Core.Bool.{cond}
use mathlib.Core.List.{List, [], ◌∷◌}
use Prim.Native.Nat.{ℕ, suc, ◌-◌, ◌*◌, ◌/◌, ◌≤◌, ◌<◌}
use native.Mathlib.Omega.{arith}
use lib.Dec.{leb}
use lib.ListN.{get_or, length, replicate, length-replicate}
use borrow.Author.Tests.{lt-leb, le-leb, le-ltb}
use Rattle.bits.specs.Slot.{cut}
use Rattle.bits.specs.Tab.{tabulate}
use Rattle.bits.proofs.Bools.{below?}
use Rattle.bits.proofs.Tabs.{length-tabulate, get_d_tabulate}
use Rattle.routes.specs.Route.{Prefix, Fine, Good}
use Rattle.routes.specs.Record.{record_at, Records, written, no_route}
use Rattle.routes.specs.Input.{input_said}
use Rattle.routes.specs.Said.{accepted, refused, refused_at}
use Rattle.routes.specs.declared.Route.{Route}
use Rattle.routes.specs.Cases.{WrongRoute, WrongRecord, RightRecord, Checked}
use Rattle.routes.proofs.Meaning.{good-input}
use Rattle.routes.proofs.Judged.{check-only}
use Rattle.routes.proofs.Rows.{nth-good, length-written, record-written, routes-written, written_listed}
use Rattle.standing.specs.Cells.{need}
use Rattle.sail_theory.specs.Calls.{input_routes}
use Rattle.examples.specs.EdgesInputs.{many}
use Rattle.examples.proofs.Blank.{zero-at}

abbrev pub nth : ℕ → Route
nth k = record { addr = k * 65536; len = 16; mark = 0; hop = 1 }

nth-fine : (k : ℕ) → k < 65536 → Fine (nth k)
unfolding cut
nth-fine k h = record {
  prefix = record { len_ok = omega arith; addr_ok = omega arith; clear = omega arith };
  hop_one = omega arith;
  hop_ok = omega arith;
  mark_ok = omega arith;
}

module _ (n : ℕ) (few : n ≤ 65536) where
  abbrev rs : List Route
  rs = tabulate n nth

  all : length rs ≡ n
  all = length-tabulate n nth

  is-nth : (k : ℕ) → k < n → get_or rs k no_route ≡ nth k
  is-nth k h = get_d_tabulate n nth k no_route h

  good : Good rs
  good =
      nth-good rs
      (λ k h. let l : k < n = rw all at h in rw (is-nth k l) (nth-fine k (omega arith)))
      (λ i j l u. let v : j < n = rw all at u in rw (is-nth i (omega arith), is-nth j v) (omega arith))

  fits : length rs ≤ n
  fits = omega (arith, all)

  pub many-length : length (many n) ≡ n * 8
  unfolding many
  many-length = length-written rs n

  many-at : (k : ℕ) → k < n → record_at (many n) k ≡ nth k
  unfolding many
  many-at k h = record-written rs n good fits k (rw all h) ∙ is-nth k h

  right : (k : ℕ) → k < n → RightRecord (many n) k
  right k h = record { fine = rw (many-at k h) (nth-fine k (omega arith)); after = λ z. rw (many-at k h, many-at (k - 1) (omega arith)) (omega arith) }

  pub many-routes : input_routes (many n) ≡ rs
  unfolding many
  many-routes =
      let e : length (written rs n) / 8 ≡ length rs = omega (arith, length-written rs n, all) in
      rw e (routes-written rs n good fits)

  records : n ≤ 4096 → Records (many n) n
  unfolding many
  records h = subst (Records (written rs n)) all (written_listed rs n good fits h).records

  -- good up to 4,096
  pub many-good : n ≤ 4096 → input_said (many n) ≡ accepted (n ∷ [])
  many-good h = good-input (many n) n many-length (records h)

  pub many-over : 4096 < n → input_said (many n) ≡ refused 6
  many-over h =
      let e = many-length in
      check-only (many n) (refused 6) (Checked.many (omega arith) (λ j l. right j (omega arith)) (omega arith))

  pub many-said : input_said (many n) ≡ cond (leb n 4096) (accepted (n ∷ [])) (refused 6)
  many-said = go (below? 4096 n)
    where
      go : (4096 < n) ⊎ (n ≤ 4096) → input_said (many n) ≡ cond (leb n 4096) (accepted (n ∷ [])) (refused 6)
      go (inl h) = many-over h ∙ rw (lt-leb n 4096 h)
      go (inr h) = many-good h ∙ rw (le-leb n 4096 h)

-- routes that are no longer than p need no chunk
need-none : (rs : List Route) (p : ℕ) → ((k : ℕ) → k < length rs → (get_or rs k no_route).len ≤ p) → need rs p ≡ 0
unfolding need
need-none [] p h = refl
need-none (r ∷ rs) p h = rw (le-ltb p r.len (h 0 (omega arith)), need-none rs p (λ k l. h (suc k) (omega arith)))

pub many-need : (n p : ℕ) → n ≤ 65536 → 16 ≤ p → need (input_routes (many n)) p ≡ 0
many-need n p few h =
    rw (many-routes n few)
    (need-none (tabulate n nth) p (λ k l. let u : k < n = rw (length-tabulate n nth) at l in rw (get_d_tabulate n nth k no_route u) h))

-- records of zero bytes have hop 0
zeros-hop : (n : ℕ) → record_at (replicate n 0) 0 ≡ no_route
unfolding record_at
zeros-hop n = rw (zero-at n 0, zero-at n 1, zero-at n 2, zero-at n 3, zero-at n 4, zero-at n 5, zero-at n 6, zero-at n 7)

none-prefix : Prefix 0 0
unfolding cut
none-prefix = record { len_ok = omega arith; addr_ok = omega arith; clear = refl }

pub zeros-said : (n : ℕ) → 0 < n → input_said (replicate (n * 8) 0) ≡ refused_at 4 0
zeros-said n h =
    let e = length-replicate {A = ℕ} (n * 8) 0 in
    check-only (replicate (n * 8) 0) (refused_at 4 0) (Checked.stopped 0 4 (omega arith) (omega arith) (λ j l. absurd (omega arith))
    (WrongRecord.itself (rw (zeros-hop (n * 8)) (WrongRoute.hop none-prefix (λ l u. omega arith)))) (omega arith))
