-- The owners of a load and the words of its routes, made in room that is lent, and what the count is then of.
use mathlib.Core.Path.{◌≡◌, sym, ◌∙◌, ap, subst}
use mathlib.Core.List.{List, ◌++◌}
use Prim.Native.Nat.{ℕ, ◌+◌, ◌-◌, ◌*◌, ◌/◌, ◌^◌, ◌≤◌}
use native.Mathlib.Omega.{arith}
use lib.ListN.{length, take, drop, replicate, length-replicate, replicate-append-replicate}
use lib.Seq.{length-take-le, length_front, take_at}
use Rattle.chain.specs.Words.{routes_of_words}
use Rattle.chain.specs.List.{ChainRoom, Chained}
use Rattle.sail.specs.Geometry.{bits2, bits3}
use Rattle.sail.specs.Lent.{cells}
use Rattle.sail.specs.Level.{chunks_of, level1, level2}
use Rattle.sail.specs.Sizes.{Celled}
use Rattle.sail.specs.declared.geometry.Geometry.{Geometry}
use Rattle.sail_owners.specs.Owners.{owners, Ownable}
use Rattle.sail_theory.specs.Render.{Fits}
use Rattle.sail_theory.specs.Calls.{Owners, owners_after, input_routes}
use Rattle.repair_levels.specs.Levels.{Owned, Differing, wanted}
use Rattle.repair_differs.specs.Differs.{fresh_owners, DiffReady, DiffRoom}
use Rattle.repair_levels.specs.declared.Differs.{Differs}

module _ (g : Geometry) (input first second third own2 own3 ws par want : List ℕ) (h : DiffRoom g input first second third own2 own3 ws par want) where
  abbrev k : DiffReady g input (length own2) (length own3) first second third
  k = h.countable

  pub owners-ask : Ownable g input own2 own3
  owners-ask = rw (← h.none2, ← h.none3) at k.ownable

  abbrev n : ℕ
  n = length input / 8

  pub words-in : n ≤ length ws
  words-in = omega (arith, k.ownable.records.few, h.scratch.words)

  pub words_room : n ≡ length (take n ws)
  words_room = sym (length-take-le n ws words-in)

  pub words-chain : ChainRoom input (take n ws) par
  words-chain = record { records = rw (← words_room) k.ownable.records; room = h.scratch.chain }

  module _ (words : List ℕ) (kept : length words ≡ length (take n ws)) where
    pub front-in : n ≤ length (words ++ drop n ws)
    front-in = omega (arith, length_front ws words n kept, words-in)

    front : take n (words ++ drop n ws) ≡ words
    front = take_at words (drop n ws) n (kept ∙ sym words_room)

    pub front-room : n ≡ length (take n (words ++ drop n ws))
    front-room = words_room ∙ sym kept ∙ ap length (sym front)

    module _ (chain : List ℕ) (made : Chained input (length (take n ws)) words chain) (after2 after3 : List ℕ)
        (settles : owners after2 after3 ≡ owners_after g (owners own2 own3) (input_routes input)) where
      routes : routes_of_words (take n (words ++ drop n ws)) ≡ input_routes input
      routes = rw (front, made.routes, ← words_room)

      -- the owners are those of the load
      owned : owners after2 after3 ≡ fresh_owners g input (length own2) (length own3)
      owned = settles ∙ (λ i. owners_after g (owners (h.none2 i) (h.none3 i)) (input_routes input))

      module _ (same2 : length after2 ≡ length own2) (same3 : length after3 ≡ length own3) where
        celled : Celled g (cells first second third after2 after3)
        celled =
            let z = k.celled in
            let e2 = length-replicate {A = ℕ} (length own2) 0 in
            let e3 = length-replicate {A = ℕ} (length own3) 0 in
            record {
              valid = z.valid;
              cells1 = z.cells1;
              few2 = omega (arith, z.few2);
              cells2 = z.cells2 ∙ ap (λ (m : ℕ). m * 2 ^ bits2 g) (e2 ∙ sym same2);
              few3 = omega (arith, z.few3);
              cells3 = z.cells3 ∙ ap (λ (m : ℕ). m * 2 ^ bits3 g) (e3 ∙ sym same3);
            }

        pub all-owned : Owned g (take n (words ++ drop n ws)) chain (cells first second third after2 after3) want
        all-owned = record {
          ready = rw front made.ready;
          celled = celled;
          fits2 = rw routes (subst (λ (o : Owners). Fits (input_routes input) (level1 g) (chunks_of o.own2)) (sym owned) k.fits2);
          fits3 = rw routes (subst (λ (o : Owners). Fits (input_routes input) (level2 g (chunks_of o.own2)) (chunks_of o.own3)) (sym owned) k.fits3);
          room = h.room;
        }

      pub all-differ : (r : Differs) → Differing r first second third (wanted g (routes_of_words (take n (words ++ drop n ws))) (owners after2 after3))
          → Differing r first second third (wanted g (input_routes input) (fresh_owners g input (length own2) (length own3)))
      all-differ r d = subst (λ (o : Owners). Differing r first second third (wanted g (input_routes input) o)) owned (rw routes at d)

-- room of its own: zeros, of which the first are lent
abbrev zeros : ℕ → List ℕ
zeros m = replicate m 0

zeros-front : (m j : ℕ) → j ≤ m → take j (zeros m) ≡ zeros j
zeros-front m j h =
    let z : j + (m - j) ≡ m = omega arith in
    let e : zeros j ++ zeros (m - j) ≡ zeros m = replicate-append-replicate j (m - j) 0 ∙ ap zeros z in
    ap (take j) (sym e) ∙ take_at (zeros j) (zeros (m - j)) j (length-replicate j 0)

zeros-length : (m j : ℕ) → j ≤ m → length (take j (zeros m)) ≡ j
zeros-length m j h = ap length (zeros-front m j h) ∙ length-replicate j 0

module _ (g : Geometry) (input : List ℕ) (n2 n3 : ℕ) (first second third : List ℕ) (k : DiffReady g input n2 n3 first second third) where
  pub own-few2 : n2 ≤ 4096
  own-few2 = omega (arith, k.celled.few2, length-replicate {A = ℕ} n2 0)

  pub own-few3 : n3 ≤ 4096
  own-few3 = omega (arith, k.celled.few3, length-replicate {A = ℕ} n3 0)

  pub own-room2 : n2 ≡ length (take n2 (zeros 4096))
  own-room2 = sym (zeros-length 4096 n2 own-few2)

  pub own-room3 : n3 ≡ length (take n3 (zeros 4096))
  own-room3 = sym (zeros-length 4096 n3 own-few3)

  pub own-roomy : DiffRoom g input first second third (take n2 (zeros 4096)) (take n3 (zeros 4096)) (zeros 4096) (zeros 4353) (zeros 1024)
  own-roomy = record {
    countable = rw (← own-room2, ← own-room3) k;
    none2 = zeros-front 4096 n2 own-few2 ∙ ap zeros own-room2;
    none3 = zeros-front 4096 n3 own-few3 ∙ ap zeros own-room3;
    scratch = record { words = length-replicate {A = ℕ} 4096 0; chain = length-replicate {A = ℕ} 4353 0 };
    room = length-replicate {A = ℕ} 1024 0;
  }

  pub own-differ : (r : Differs)
      → Differing r first second third (wanted g (input_routes input) (fresh_owners g input (length (take n2 (zeros 4096))) (length (take n3 (zeros 4096)))))
      → Differing r first second third (wanted g (input_routes input) (fresh_owners g input n2 n3))
  own-differ r d = rw (← own-room2, ← own-room3) at d
