-- What is packed is read back: of every layout, for all that has room in its fields. So no two fields overlap, and no two answers are
-- packed alike.
use mathlib.Core.Path.{◌≡◌, refl, sym, ◌∙◌, ap}
use mathlib.Core.Bool.{true, false≢true}
use mathlib.Core.List.{List, [], ◌∷◌}
use Prim.Native.Nat.{ℕ, ◌+◌, ◌*◌, ◌%◌, ◌^◌, ◌≤◌, ◌<◌}
use native.Mathlib.Nat.{mod-eq_of_lt}
use native.Mathlib.Omega.{arith}
use lib.Arith.{digits_div, digits_mod}
use borrow.Author.Tests.{eq-eqb, ne_eqb}
use Rattle.routes.specs.Said.{Said, accepted, refused, refused_at, and_then, accepts}
use Rattle.sail.specs.Word.{packed, value, pack_found}
use Rattle.packing.specs.Pack.{pack_report, pack_change, pack_built, pack_run, pack_none, pack_route}
use Rattle.packing.specs.Unpack.{
  field,
  refusal_of,
  unpacked,
  found_values,
  unpack_found,
  report_values,
  unpack_report,
  built_values,
  unpack_built,
  run_values,
  unpack_run,
  route_values,
  unpack_route,
  announce_values,
  unpack_announce,
  withdraw_values,
  unpack_withdraw,
  no_values,
  unpack_done,
  unpack_none,
  count_of,
  FitsWord,
  FoundFits,
  ReportFits,
  BuiltFits,
  RunFits,
  RouteFits,
  AnnounceFits,
  WithdrawFits,
  DoneFits,
}

-- A field is read whatever stands below it and above it. (Most of those below `omega` does by itself; the highest fields it does not.)
pub field_is : (low width below v above x : ℕ) → below < 2 ^ low → v < 2 ^ width → x ≡ (above * 2 ^ width + v) * 2 ^ low + below → field low width x ≡ v
field_is low width below v above x b c e =
    ap (field low width) e ∙ ap (λ (y : ℕ). y % 2 ^ width) (digits_div (above * 2 ^ width + v) b) ∙ digits_mod above c

-- Refusals, the same in all layouts.
module _ (layout : List ℕ → ℕ) (values : ℕ → List ℕ) where
  number_read : (n x : ℕ) → 1 ≤ n → n < 2 ^ 8 → x ≡ packed layout (refused n) → unpacked values x ≡ refused n
  unfolding packed unpacked refusal_of
  number_read n x a b e =
      let f : field 0 8 x ≡ n = omega arith in
      let g : field 8 1 x ≡ 0 = omega arith in
      rw (f, g, ne_eqb n 0 (λ z. omega arith))

  index_read : (n k x : ℕ) → 1 ≤ n → n < 2 ^ 8 → k < 2 ^ 32 → x ≡ packed layout (refused_at n k) → unpacked values x ≡ refused_at n k
  unfolding packed unpacked refusal_of
  index_read n k x a b c e =
      let f : field 0 8 x ≡ n = omega arith in
      let g : field 8 1 x ≡ 1 = omega arith in
      let r : k % 2 ^ 32 ≡ k = mod-eq_of_lt c in
      let h : field 32 32 x ≡ k = field_is 32 32 (n + 256) k 0 x (omega arith) c (omega arith) in
      rw (f, g, h, ne_eqb n 0 (λ z. omega arith))

-- x is read as accepted, with these values
pub record ReadsAccepted (values : ℕ → List ℕ) (x : ℕ) (vs : List ℕ) : Type 0 where
  pub none : field 0 8 x ≡ 0
  pub back : values x ≡ vs

-- A layout whose values are read back packs every answer that fits so that it is read back
module _ (most : ℕ) (few : most ≤ 2 ^ 32) (P : List ℕ → Type 0) (layout : List ℕ → ℕ) (values : ℕ → List ℕ)
    (reads : (vs : List ℕ) → P vs → ReadsAccepted values (packed layout (accepted vs)) vs) where
  pub said_read : (s : Said) → FitsWord most P s → unpacked values (packed layout s) ≡ s
  unfolding packed unpacked
  said_read _ (FitsWord.values vs p) = let r = reads vs p in rw (eq-eqb _ 0 r.none) (ap accepted r.back)
  said_read _ (FitsWord.number n a b) = number_read layout values n _ a b refl
  said_read _ (FitsWord.index n k a b c) = index_read layout values n k _ a b (omega arith) refl

-- no two answers are packed alike, where both are read back
pub packed-once : (read : ℕ → Said) (pack : Said → ℕ) (s u : Said) → read (pack s) ≡ s → read (pack u) ≡ u → pack s ≡ pack u → s ≡ u
packed-once read pack s u f g e = sym f ∙ ap read e ∙ g

-- The layouts, each over its packed number.
hop-read : (n h x : ℕ) → n < 2 ^ 8 → 1 ≤ h → h < 2 ^ 16 → x ≡ pack_found (accepted (n ∷ h ∷ [])) → ReadsAccepted found_values x (n ∷ h ∷ [])
unfolding packed found_values
hop-read n h x a b c e =
    let f : field 8 8 x ≡ n = omega arith in
    let g : field 16 16 x ≡ h = omega arith in
    record { none = omega arith; back = rw (f, g, ne_eqb h 0 (λ z. omega arith)) }

no-hop-read : (n x : ℕ) → n < 2 ^ 8 → x ≡ pack_found (accepted (n ∷ [])) → ReadsAccepted found_values x (n ∷ [])
unfolding packed found_values
no-hop-read n x a e =
    let f : field 8 8 x ≡ n = omega arith in
    let g : field 16 16 x ≡ 0 = omega arith in
    record { none = omega arith; back = rw (f, g) }

report-values : (n y z x : ℕ) → n < 2 ^ 16 → y < 2 ^ 16 → z < 2 ^ 16 → x ≡ pack_report (accepted (n ∷ y ∷ z ∷ [])) → ReadsAccepted report_values x
    (n ∷ y ∷ z ∷ [])
unfolding packed report_values
report-values n y z x a b c e =
    let f : field 16 16 x ≡ n = omega arith in
    let g : field 32 16 x ≡ y = omega arith in
    let p : n % 65536 ≡ n = mod-eq_of_lt a in
    let q : y % 65536 ≡ y = mod-eq_of_lt b in
    let r : z % 65536 ≡ z = mod-eq_of_lt c in
    let h : field 48 16 x ≡ z = field_is 48 16 (n * 65536 + y * 2 ^ 32) z 0 x (omega arith) c (omega arith) in
    record { none = omega arith; back = rw (f, g, h) }

built-values : (n h x : ℕ) → n < 2 ^ 32 → h < 2 ^ 16 → x ≡ pack_built (accepted (n ∷ h ∷ [])) → ReadsAccepted built_values x (n ∷ h ∷ [])
unfolding packed built_values
built-values n h x a b e =
    let f : field 32 32 x ≡ n = omega arith in
    let g : field 16 16 x ≡ h = omega arith in
    record { none = omega arith; back = rw (f, g) }

run-values : (j n x : ℕ) → j < 2 ^ 16 → n < 2 ^ 16 → x ≡ pack_run (accepted (j ∷ n ∷ [])) → ReadsAccepted run_values x (j ∷ n ∷ [])
unfolding packed run_values
run-values j n x a b e =
    let f : field 16 16 x ≡ j = omega arith in
    let g : field 32 16 x ≡ n = omega arith in
    record { none = omega arith; back = rw (f, g) }

route-values : (a len mark hop x : ℕ) → a < 2 ^ 32 → len < 2 ^ 7 → mark < 2 → 1 ≤ hop → hop < 2 ^ 16 → x ≡ pack_route (accepted (a ∷ len ∷ mark ∷ hop ∷ []))
    → ReadsAccepted route_values x (a ∷ len ∷ mark ∷ hop ∷ [])
unfolding packed route_values
route-values a len mark hop x i j n k m e =
    let u : len % 128 ≡ len = mod-eq_of_lt j in
    let v : mark % 2 ≡ mark = mod-eq_of_lt n in
    let f : field 32 32 x ≡ a = field_is 32 32 (len * 256 + mark * 32768 + hop * 65536) a 0 x (omega arith) i (omega arith) in
    let g : field 8 7 x ≡ len = field_is 8 7 0 len (mark + hop * 2 + a * 131072) x (omega arith) j (omega arith) in
    let p : field 15 1 x ≡ mark = field_is 15 1 (len * 256) mark (hop + a * 65536) x (omega arith) n (omega arith) in
    let h : field 16 16 x ≡ hop = field_is 16 16 (len * 256 + mark * 32768) hop a x (omega arith) m (omega arith) in
    record { none = omega arith; back = rw (f, g, p, h, ne_eqb hop 0 (λ z. omega arith)) }

announce-values : (c b n x : ℕ) → c < 2 → b < 2 → n < 2 ^ 16 → x ≡ pack_change n (accepted (c ∷ b ∷ [])) → ReadsAccepted announce_values x (c ∷ b ∷ [])
unfolding packed announce_values
announce-values c b n x h i j e =
    let f : field 9 1 x ≡ c = omega arith in
    let g : field 8 1 x ≡ b = omega arith in
    record { none = omega arith; back = rw (f, g) }

withdraw-values : (c n x : ℕ) → c < 2 → n < 2 ^ 16 → x ≡ pack_change n (accepted (c ∷ [])) → ReadsAccepted withdraw_values x (c ∷ [])
unfolding packed withdraw_values
withdraw-values c n x i j e = let f : field 9 1 x ≡ c = omega arith in record { none = omega arith; back = rw f }

-- The theorem, for each layout.
module _ (most : ℕ) (few : most ≤ 2 ^ 32) where
  pub found-read : (s : Said) → FitsWord most FoundFits s → unpack_found (pack_found s) ≡ s
  unfolding packed
  found-read = said_read most few FoundFits _ found_values go
    where
      go : (vs : List ℕ) → FoundFits vs → ReadsAccepted found_values (pack_found (accepted vs)) vs
      go _ (FoundFits.hop n h a b c) = hop-read n h _ a b c refl
      go _ (FoundFits.none n a) = no-hop-read n _ a refl

  pub report-read : (s : Said) → FitsWord most ReportFits s → unpack_report (pack_report s) ≡ s
  unfolding packed
  report-read = said_read most few ReportFits _ report_values go
    where
      go : (vs : List ℕ) → ReportFits vs → ReadsAccepted report_values (pack_report (accepted vs)) vs
      go _ (ReportFits.report n y z a b c) = report-values n y z _ a b c refl

  pub built-read : (s : Said) → FitsWord most BuiltFits s → unpack_built (pack_built s) ≡ s
  unfolding packed
  built-read = said_read most few BuiltFits _ built_values go
    where
      go : (vs : List ℕ) → BuiltFits vs → ReadsAccepted built_values (pack_built (accepted vs)) vs
      go _ (BuiltFits.image n h a b) = built-values n h _ a b refl

  pub run-read : (s : Said) → FitsWord most RunFits s → unpack_run (pack_run s) ≡ s
  unfolding packed
  run-read = said_read most few RunFits _ run_values go
    where
      go : (vs : List ℕ) → RunFits vs → ReadsAccepted run_values (pack_run (accepted vs)) vs
      go _ (RunFits.run j n a b) = run-values j n _ a b refl

  pub route-read : (s : Said) → FitsWord most RouteFits s → unpack_route (pack_route s) ≡ s
  unfolding packed route_values
  route-read = said_read most few RouteFits _ route_values go
    where
      go : (vs : List ℕ) → RouteFits vs → ReadsAccepted route_values (pack_route (accepted vs)) vs
      go _ (RouteFits.one a len mark hop i j n k m) = route-values a len mark hop _ i j n k m refl
      go _ RouteFits.nothing = record { none = refl; back = refl }

  pub announce-read : (count : ℕ) (s : Said) → FitsWord most (AnnounceFits count) s → unpack_announce (pack_change count s) ≡ s
  unfolding packed
  announce-read count = said_read most few (AnnounceFits count) _ announce_values go
    where
      go : (vs : List ℕ) → AnnounceFits count vs → ReadsAccepted announce_values (pack_change count (accepted vs)) vs
      go _ (AnnounceFits.which c b h i j) = announce-values c b count _ h i j refl

  pub withdraw-read : (count : ℕ) (s : Said) → FitsWord most (WithdrawFits count) s → unpack_withdraw (pack_change count s) ≡ s
  unfolding packed
  withdraw-read count = said_read most few (WithdrawFits count) _ withdraw_values go
    where
      go : (vs : List ℕ) → WithdrawFits count vs → ReadsAccepted withdraw_values (pack_change count (accepted vs)) vs
      go _ (WithdrawFits.gone c i j) = withdraw-values c count _ i j refl

  pub done-read : (count : ℕ) (s : Said) → FitsWord most (DoneFits count) s → unpack_done (pack_change count s) ≡ s
  unfolding packed no_values
  done-read count = said_read most few (DoneFits count) _ no_values go
    where
      go : (vs : List ℕ) → DoneFits count vs → ReadsAccepted no_values (pack_change count (accepted vs)) vs
      go _ (DoneFits.done j) = record { none = omega arith; back = refl }

  -- all but the values of an accepted call
  pub none_read : (P : List ℕ → Type 0) (s : Said) → FitsWord most P s → unpack_none (pack_none s) ≡ and_then s (accepted [])
  unfolding packed unpacked no_values
  none_read P _ (FitsWord.values vs p) = refl
  none_read P _ (FitsWord.number n a b) = number_read (λ vs. 0) no_values n _ a b refl
  none_read P _ (FitsWord.index n k a b c) = index_read (λ vs. 0) no_values n k _ a b (omega arith) refl

-- the route count after a change that was accepted
record Changed (count : ℕ) (vs : List ℕ) : Type 0 where
  cleared : value 0 vs < 2
  replaced : value 1 vs < 2
  few : count < 2 ^ 16

change-count : (most count : ℕ) (P : List ℕ → Type 0) → ((vs : List ℕ) → P vs → Changed count vs)
    → (s : Said) → FitsWord most P s → accepts s ≡ true → count_of (pack_change count s) ≡ count
unfolding packed
change-count most count P small _ (FitsWord.values vs p) e = let h = small vs p in omega (arith, h.cleared, h.replaced, h.few)
change-count most count P small _ (FitsWord.number n a b) e = absurd (false≢true e)
change-count most count P small _ (FitsWord.index n k a b c) e = absurd (false≢true e)

pub announce-count : (most count : ℕ) (s : Said) → FitsWord most (AnnounceFits count) s → accepts s ≡ true → count_of (pack_change count s) ≡ count
announce-count most count = change-count most count (AnnounceFits count) go
  where
    go : (vs : List ℕ) → AnnounceFits count vs → Changed count vs
    go _ (AnnounceFits.which c b h i j) = record { cleared = h; replaced = i; few = j }

pub withdraw-count : (most count : ℕ) (s : Said) → FitsWord most (WithdrawFits count) s → accepts s ≡ true → count_of (pack_change count s) ≡ count
withdraw-count most count = change-count most count (WithdrawFits count) go
  where
    go : (vs : List ℕ) → WithdrawFits count vs → Changed count vs
    go _ (WithdrawFits.gone c i j) = record { cleared = i; replaced = omega arith; few = j }

pub done-count : (most count : ℕ) (s : Said) → FitsWord most (DoneFits count) s → accepts s ≡ true → count_of (pack_change count s) ≡ count
done-count most count = change-count most count (DoneFits count) go
  where
    go : (vs : List ℕ) → DoneFits count vs → Changed count vs
    go _ (DoneFits.done j) = record { cleared = omega arith; replaced = omega arith; few = j }

-- what carries no index is packed into 32 bits
pub found-low : (s : Said) → FitsWord 0 FoundFits s → pack_found s < 2 ^ 32
unfolding packed
found-low _ (FitsWord.values _ (FoundFits.hop n h a b c)) = omega arith
found-low _ (FitsWord.values _ (FoundFits.none n a)) = omega arith
found-low _ (FitsWord.number n a b) = omega arith
found-low _ (FitsWord.index n k a b c) = absurd (omega arith)
