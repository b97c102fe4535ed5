-- Every packed answer is the sum of the fields that the header names for it: bits that are not named are 0. For each layout its values fill
-- the fields, each below the next, and nothing is added to them.
use mathlib.Core.Path.{◌≡◌, refl}
use mathlib.Core.List.{List, [], ◌∷◌}
use Prim.Native.Nat.{ℕ, ◌+◌, ◌*◌, ◌%◌, ◌^◌, ◌≤◌, ◌<◌}
use native.Mathlib.Nat.{mod-eq_of_lt}
use native.Mathlib.Omega.{arith}
use borrow.Author.Tests.{eq-eqb, ne_eqb}
use Rattle.routes.specs.Said.{Said, accepted, refused, refused_at}
use Rattle.sail.specs.Word.{packed, pack_found}
use Rattle.packing.specs.Pack.{pack_report, pack_change, pack_built, pack_run, pack_none, pack_route}
use Rattle.packing.specs.Unpack.{field, FitsWord, FoundFits, ReportFits, BuiltFits, RunFits, RouteFits, AnnounceFits, WithdrawFits, DoneFits}
use Rattle.packing.specs.Parts.{
  refusal_parts,
  parts,
  found_parts,
  report_parts,
  built_parts,
  run_parts,
  route_parts,
  announce_parts,
  withdraw_parts,
  done_parts,
  no_parts,
}
use Rattle.packing.proofs.Unpacks.{field_is}

-- Refusals, the same in all layouts.
module _ (layout : List ℕ → ℕ) (values : ℕ → ℕ) where
  number-parts : (n x : ℕ) → 1 ≤ n → n < 2 ^ 8 → x ≡ packed layout (refused n) → x ≡ parts values x
  unfolding packed parts refusal_parts
  number-parts n x a b e =
      let f : field 0 8 x ≡ n = omega arith in
      let g : field 8 1 x ≡ 0 = omega arith in
      rw (f, g, ne_eqb n 0 (λ z. omega arith)) e

  index-parts : (n k x : ℕ) → 1 ≤ n → n < 2 ^ 8 → k < 2 ^ 32 → x ≡ packed layout (refused_at n k) → x ≡ parts values x
  unfolding packed parts refusal_parts
  index-parts n k x a b c e =
      let f : field 0 8 x ≡ n = omega arith in
      let g : field 8 1 x ≡ 1 = omega arith in
      let r : k % 2 ^ 32 ≡ k = mod-eq_of_lt c in
      let h : field 32 32 x ≡ k = field_is 32 32 (n + 256) k 0 x (omega arith) c (omega arith) in
      rw (f, g, h, ne_eqb n 0 (λ z. omega arith)) (omega arith)

-- x is an accepted answer, and the sum of its values' fields
pub record Sums (values : ℕ → ℕ) (x : ℕ) : Type 0 where
  pub none : field 0 8 x ≡ 0
  pub sum : x ≡ values x

module _ (most : ℕ) (few : most ≤ 2 ^ 32) (P : List ℕ → Type 0) (layout : List ℕ → ℕ) (values : ℕ → ℕ)
    (sums : (vs : List ℕ) → P vs → Sums values (packed layout (accepted vs))) where
  pub said-parts : (s : Said) → FitsWord most P s → packed layout s ≡ parts values (packed layout s)
  unfolding packed parts
  said-parts _ (FitsWord.values vs p) = let r = sums vs p in rw (eq-eqb _ 0 r.none) r.sum
  said-parts _ (FitsWord.number n a b) = number-parts layout values n _ a b refl
  said-parts _ (FitsWord.index n k a b c) = index-parts layout values n k _ a b (omega arith) refl

-- The layouts, each over its packed number.
report-sum : (n y z x : ℕ) → n < 2 ^ 16 → y < 2 ^ 16 → z < 2 ^ 16 → x ≡ pack_report (accepted (n ∷ y ∷ z ∷ [])) → Sums report_parts x
unfolding packed report_parts
report-sum n y z x a b c e =
    let f : field 16 16 x ≡ n = omega arith in
    let g : field 32 16 x ≡ y = omega arith in
    let p : n % 65536 ≡ n = mod-eq_of_lt a in
    let q : y % 65536 ≡ y = mod-eq_of_lt b in
    let r : z % 65536 ≡ z = mod-eq_of_lt c in
    let h : field 48 16 x ≡ z = field_is 48 16 (n * 65536 + y * 2 ^ 32) z 0 x (omega arith) c (omega arith) in
    record { none = omega arith; sum = rw (f, g, h) (omega arith) }

found-sum : (n h x : ℕ) → n < 2 ^ 8 → h < 2 ^ 16 → x ≡ n * 256 + h * 65536 → Sums found_parts x
unfolding found_parts
found-sum n h x a b e =
    let f : field 8 8 x ≡ n = omega arith in
    let g : field 16 16 x ≡ h = omega arith in
    record { none = omega arith; sum = rw (f, g) e }

built-sum : (n h x : ℕ) → n < 2 ^ 32 → h < 2 ^ 16 → x ≡ pack_built (accepted (n ∷ h ∷ [])) → Sums built_parts x
unfolding packed built_parts
built-sum n h x a b e =
    let f : field 32 32 x ≡ n = omega arith in
    let g : field 16 16 x ≡ h = omega arith in
    record { none = omega arith; sum = rw (f, g) (omega arith) }

run-sum : (j n x : ℕ) → j < 2 ^ 16 → n < 2 ^ 16 → x ≡ pack_run (accepted (j ∷ n ∷ [])) → Sums run_parts x
unfolding packed run_parts
run-sum j n x a b e =
    let f : field 16 16 x ≡ j = omega arith in
    let g : field 32 16 x ≡ n = omega arith in
    let p : j % 65536 ≡ j = mod-eq_of_lt a in
    let q : n % 65536 ≡ n = mod-eq_of_lt b in
    record { none = omega arith; sum = rw (f, g) (omega arith) }

route-sum : (a len mark hop x : ℕ) → a < 2 ^ 32 → len < 2 ^ 7 → mark < 2 → hop < 2 ^ 16 → x ≡ pack_route (accepted (a ∷ len ∷ mark ∷ hop ∷ []))
    → Sums route_parts x
unfolding packed route_parts
route-sum a len mark hop x i j n m e =
    let u : len % 128 ≡ len = mod-eq_of_lt j in
    let v : mark % 2 ≡ mark = mod-eq_of_lt n in
    let f : field 32 32 x ≡ a = field_is 32 32 (len * 256 + mark * 32768 + hop * 65536) a 0 x (omega arith) i (omega arith) in
    let g : field 8 7 x ≡ len = field_is 8 7 0 len (mark + hop * 2 + a * 131072) x (omega arith) j (omega arith) in
    let p : field 15 1 x ≡ mark = field_is 15 1 (len * 256) mark (hop + a * 65536) x (omega arith) n (omega arith) in
    let h : field 16 16 x ≡ hop = field_is 16 16 (len * 256 + mark * 32768) hop a x (omega arith) m (omega arith) in
    record { none = omega arith; sum = rw (f, g, p, h) (omega arith) }

announce-sum : (c b n x : ℕ) → c < 2 → b < 2 → n < 2 ^ 16 → x ≡ pack_change n (accepted (c ∷ b ∷ [])) → Sums announce_parts x
unfolding packed announce_parts
announce-sum c b n x h i j e =
    let f : field 9 1 x ≡ c = omega arith in
    let g : field 8 1 x ≡ b = omega arith in
    let r : field 16 16 x ≡ n = field_is 16 16 (c * 512 + b * 256) n 0 x (omega arith) j (omega arith) in
    record { none = omega arith; sum = rw (f, g, r) (omega arith) }

withdraw-sum : (c n x : ℕ) → c < 2 → n < 2 ^ 16 → x ≡ pack_change n (accepted (c ∷ [])) → Sums withdraw_parts x
unfolding packed withdraw_parts
withdraw-sum c n x i j e =
    let f : field 9 1 x ≡ c = omega arith in
    let r : field 16 16 x ≡ n = field_is 16 16 (c * 512) n 0 x (omega arith) j (omega arith) in
    record { none = omega arith; sum = rw (f, r) (omega arith) }

done-sum : (n x : ℕ) → n < 2 ^ 16 → x ≡ n * 65536 → Sums done_parts x
unfolding done_parts
done-sum n x j e = record { none = omega arith; sum = omega arith }

-- The theorem, for each layout.
module _ (most : ℕ) (few : most ≤ 2 ^ 32) where
  pub found-parts : (s : Said) → FitsWord most FoundFits s → pack_found s ≡ parts found_parts (pack_found s)
  unfolding packed
  found-parts = said-parts most few FoundFits _ found_parts go
    where
      go : (vs : List ℕ) → FoundFits vs → Sums found_parts (pack_found (accepted vs))
      go _ (FoundFits.hop n h a b c) = found-sum n h _ a c refl
      go _ (FoundFits.none n a) = found-sum n 0 _ a (omega arith) refl

  pub report-parts : (s : Said) → FitsWord most ReportFits s → pack_report s ≡ parts report_parts (pack_report s)
  unfolding packed
  report-parts = said-parts most few ReportFits _ report_parts go
    where
      go : (vs : List ℕ) → ReportFits vs → Sums report_parts (pack_report (accepted vs))
      go _ (ReportFits.report n y z a b c) = report-sum n y z _ a b c refl

  pub built-parts : (s : Said) → FitsWord most BuiltFits s → pack_built s ≡ parts built_parts (pack_built s)
  unfolding packed
  built-parts = said-parts most few BuiltFits _ built_parts go
    where
      go : (vs : List ℕ) → BuiltFits vs → Sums built_parts (pack_built (accepted vs))
      go _ (BuiltFits.image n h a b) = built-sum n h _ a b refl

  pub run-parts : (s : Said) → FitsWord most RunFits s → pack_run s ≡ parts run_parts (pack_run s)
  unfolding packed
  run-parts = said-parts most few RunFits _ run_parts go
    where
      go : (vs : List ℕ) → RunFits vs → Sums run_parts (pack_run (accepted vs))
      go _ (RunFits.run j n a b) = run-sum j n _ a b refl

  pub route-parts : (s : Said) → FitsWord most RouteFits s → pack_route s ≡ parts route_parts (pack_route s)
  unfolding packed
  route-parts = said-parts most few RouteFits _ route_parts go
    where
      go : (vs : List ℕ) → RouteFits vs → Sums route_parts (pack_route (accepted vs))
      go _ (RouteFits.one a len mark hop i j n k m) = route-sum a len mark hop _ i j n m refl
      go _ RouteFits.nothing = route-sum 0 0 0 0 _ (omega arith) (omega arith) (omega arith) (omega arith) refl

  pub announce-parts : (count : ℕ) (s : Said) → FitsWord most (AnnounceFits count) s → pack_change count s ≡ parts announce_parts (pack_change count s)
  unfolding packed
  announce-parts count = said-parts most few (AnnounceFits count) _ announce_parts go
    where
      go : (vs : List ℕ) → AnnounceFits count vs → Sums announce_parts (pack_change count (accepted vs))
      go _ (AnnounceFits.which c b h i j) = announce-sum c b count _ h i j refl

  pub withdraw-parts : (count : ℕ) (s : Said) → FitsWord most (WithdrawFits count) s → pack_change count s ≡ parts withdraw_parts (pack_change count s)
  unfolding packed
  withdraw-parts count = said-parts most few (WithdrawFits count) _ withdraw_parts go
    where
      go : (vs : List ℕ) → WithdrawFits count vs → Sums withdraw_parts (pack_change count (accepted vs))
      go _ (WithdrawFits.gone c i j) = withdraw-sum c count _ i j refl

  pub done-parts : (count : ℕ) (s : Said) → FitsWord most (DoneFits count) s → pack_change count s ≡ parts done_parts (pack_change count s)
  unfolding packed
  done-parts count = said-parts most few (DoneFits count) _ done_parts go
    where
      go : (vs : List ℕ) → DoneFits count vs → Sums done_parts (pack_change count (accepted vs))
      go _ (DoneFits.done j) = done-sum count _ j (omega arith)

  pub none-parts : (P : List ℕ → Type 0) (s : Said) → FitsWord most P s → pack_none s ≡ parts no_parts (pack_none s)
  unfolding packed no_parts
  none-parts P = said-parts most few P _ no_parts (λ vs p. record { none = refl; sum = refl })
