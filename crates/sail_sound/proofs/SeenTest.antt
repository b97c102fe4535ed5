-- What the test of a table among others goes through, and what it answers.
use mathlib.Core.Path.{◌≡◌}
use mathlib.Core.Bool.{Bool, true, false, not, false≢true}
use mathlib.Core.List.{List}
use Prim.Native.Nat.{ℕ}
use lib.ListN.{take}
use Rattle.bits.specs.Tab.{Tells}
use Rattle.bits.proofs.Tells.{tells-same, refuted, passed}
use Rattle.routes.specs.Record.{Listed}
use Rattle.routes.specs.declared.Route.{Route}
use Rattle.routes.proofs.Rows.{records-good}
use Rattle.chain.specs.Words.{routes_of_words}
use Rattle.chain.specs.List.{ChainedFront}
use Rattle.sail.specs.Lent.{Lent, cells, cells_of}
use Rattle.sail.specs.Sizes.{Sized}
use Rattle.sail.specs.declared.geometry.Geometry.{Geometry}
use Rattle.sail.specs.declared.table.Table.{Table}
use Rattle.sail.proofs.Fitting.{celled-of}
use Rattle.sail.specs.Sound.{standing}
use Rattle.sail_counts_test.specs.CountsTest.{DeepCounts}
use Rattle.sail_sound.specs.TableTest.{Passed}
use Rattle.sail_sound.specs.Seen.{PassedSeen, SeenRight, SeenWith}
use Rattle.sail_sound.proofs.Sounds.{passed_first, passed-second, passed-third, live-passed}

-- the answers of `cells_seen_ok`
module _ (rs : List Route) (g : Geometry) (first second third own2 own3 long1 long2 : List ℕ) (b : Bool)
    (live : Tells b (Passed rs g (cells first second third own2 own3))) where
  pub seen-fails : not b ≡ true → Tells false (PassedSeen rs g (cells first second third own2 own3) long1 long2)
  seen-fails n = refuted live n (λ h. h.live)

  pub seen-tells : not b ≡ false → (r : Bool) → Tells r (DeepCounts rs g own2 long1 long2)
      → Tells r (PassedSeen rs g (cells first second third own2 own3) long1 long2)
  seen-tells n r = tells-same (λ k. record { live = passed live n; counts = k }) (λ h. h.counts)

-- and those of `seen_ok`
module _ (t : Table) (l : Lent) where
  pub no-seen-list : (b : Bool) → Tells b (Listed l.list t.count) → not b ≡ true → {ws par : List ℕ} → SeenWith false t l ws par
  no-seen-list b told e = record { tells = refuted told e (λ w. w.listed); chained = λ z. absurd (false≢true z) }

  module _ (z : Sized t.geometry l) (h : Listed l.list t.count) where
    seen-right : (b : Bool) → Tells b (PassedSeen (standing t l) t.geometry (cells_of l) l.long1 l.long2) → Tells b (SeenRight t l)
    seen-right b =
        let celled = celled-of t.geometry l z in
        let good = records-good l.list t.count h.records in
        tells-same
        (λ k. record {
          listed = h;
          serves = record {
            first = passed_first (standing t l) t.geometry (cells_of l) celled k.live;
            second = passed-second (standing t l) t.geometry (cells_of l) celled k.live;
            third = passed-third (standing t l) t.geometry (cells_of l) celled k.live good;
          };
          counts = k.counts;
        })
        (λ w. record {
          live = live-passed (standing t l) t.geometry (cells_of l) celled good w.serves.first w.serves.second w.serves.third;
          counts = w.counts;
        })

    pub seen-tried : {ws par : List ℕ} → ChainedFront l.list t.count ws par → (r : Bool)
        → Tells r (PassedSeen (routes_of_words (take t.count ws)) t.geometry (cells_of l) l.long1 l.long2) → SeenWith r t l ws par
    seen-tried f r x = record { tells = seen-right r (rw f.chained.routes at x); chained = λ _. f }
