-- Both ways: what is read are the bytes of its command, and every command within the limits is read from its bytes.
-- Assumes nothing.
use borrow.Author.Tests.{eqb-true, le-leb, eq-eqb}
use Prim.Native.Nat.{ℕ, zero, suc, ◌+◌, ◌*◌, ◌/◌, ◌%◌, ◌^◌, ◌≤◌, ◌<◌}
use mathlib.Core.Path.{◌≡◌, refl, sym, ap, ◌∙◌}
use mathlib.Core.Bool.{Bool, true, false}
use mathlib.Core.Option.{Option, none, some}
use mathlib.Core.List.{List, [], ◌∷◌, ◌++◌, append_assoc}
use native.Mathlib.Nat.{pow-succ'}
use native.Mathlib.Omega.{arith}
use lib.ListN.{length, take, drop, get_or, length-append, length-drop, take-append-drop}
use lib.Seq.{take-add, take_at, drop_at, drop-drop, length-take-le}
use Rattle.model.specs.Refusals.{begin, capture, collect, rows, write, prepare, install, end, publish, validate, abort}
use Rattle.model.specs.Log.{Command, Opening, Asking, number, widths, total, fits, fields, fields_of, command_of, length_in, kind_in, whole, read_record}
use Rattle.log_records.specs.Layout.{in_bytes, Field, kind_of, fields_in, laid_out, framed, bytes_of, Fit, none_left, one-fits, Bytes, no_bytes, one_byte}
use Rattle.log_records.specs.Records.{length_of, field_in}
use Rattle.log_records.proofs.Known.{Each, one_of, known_of}
use Rattle.log_records.proofs.Reading.{whole-facts, read_whole, read_none}

-- ---- a number and its bytes
pub in-long : (w n : ℕ) → length (in_bytes w n) ≡ w
unfolding in_bytes
in-long zero n = refl
in-long (suc w) n = ap suc (in-long w (n / 256))

number_in : (w n : ℕ) → n < 256 ^ w → number (in_bytes w n) ≡ n
unfolding in_bytes number
number_in zero n h = omega arith
number_in (suc w) n h = let p = pow-succ' 256 w in rw (number_in w (n / 256) (omega arith)) (omega arith)

in-number : (l : List ℕ) → Bytes l → in_bytes (length l) (number l) ≡ l
unfolding in_bytes number
in-number [] no_bytes = refl
in-number (b ∷ bs) (one_byte h more) =
    let low : (b + 256 * number bs) % 256 ≡ b = omega arith in
    let high : (b + 256 * number bs) / 256 ≡ number bs = omega arith in
    rw (low, high, in-number bs more)

number-below : (l : List ℕ) → Bytes l → number l < 256 ^ length l
unfolding number
number-below [] no_bytes = omega arith
number-below (b ∷ bs) (one_byte h more) = let p = pow-succ' 256 (length bs) in let n = number-below bs more in omega arith

-- ---- lists of bytes
take-bytes : (n : ℕ) (l : List ℕ) → Bytes l → Bytes (take n l)
take-bytes zero l bs = no_bytes
take-bytes (suc n) [] no_bytes = no_bytes
take-bytes (suc n) (b ∷ l) (one_byte h more) = one_byte h (take-bytes n l more)

drop-bytes : (n : ℕ) (l : List ℕ) → Bytes l → Bytes (drop n l)
drop-bytes zero l bs = bs
drop-bytes (suc n) [] no_bytes = no_bytes
drop-bytes (suc n) (b ∷ l) (one_byte h more) = drop-bytes n l more

-- the first bytes of a list are those of their number
front : (w : ℕ) (l : List ℕ) → Bytes l → w ≤ length l → in_bytes w (number (take w l)) ≡ take w l
front w l bs h = let e = length-take-le w l h in rw e at (in-number (take w l) (take-bytes w l bs))

front_fits : (w : ℕ) (l : List ℕ) → Bytes l → w ≤ length l → number (take w l) < 256 ^ w
front_fits w l bs h = let e = length-take-le w l h in rw e at (number-below (take w l) (take-bytes w l bs))

-- ---- fields and their bytes
abbrev widths_in : List Field → List ℕ
widths_in [] = []
widths_in (f ∷ fs) = f.0 ∷ widths_in fs

abbrev numbers_in : List Field → List ℕ
numbers_in [] = []
numbers_in (f ∷ fs) = f.1 ∷ numbers_in fs

laid-long : (fs : List Field) → length (laid_out fs) ≡ total (widths_in fs)
unfolding laid_out total
laid-long [] = refl
laid-long (f ∷ fs) = rw (length-append, in-long f.0 f.1, laid-long fs)

fields_laid : (fs : List Field) (rest : List ℕ) → Fit fs → fields (widths_in fs) (laid_out fs ++ rest) ≡ numbers_in fs
unfolding laid_out fields
fields_laid [] rest none_left = refl
fields_laid (f ∷ fs) rest (one-fits h more) =
    let w = in_bytes f.0 f.1 in
    let e : w ++ laid_out fs ++ rest ≡ w ++ (laid_out fs ++ rest) = append_assoc w (laid_out fs) rest in
    rw (
      e,
      take_at w (laid_out fs ++ rest) f.0 (in-long f.0 f.1),
      drop_at w (laid_out fs ++ rest) f.0 (in-long f.0 f.1),
      number_in f.0 f.1 h,
      fields_laid fs rest more,
    )

-- the fields that stand in bytes, by their widths
abbrev fields_at : List ℕ → List ℕ → List Field
fields_at [] l = []
fields_at (w ∷ ws) l = (w, number (take w l)) ∷ fields_at ws (drop w l)

at-laid : (ws l : List ℕ) → Bytes l → total ws ≤ length l → laid_out (fields_at ws l) ≡ take (total ws) l
unfolding laid_out total
at-laid [] l bs h = refl
at-laid (w ∷ ws) l bs h =
    rw (front w l bs (omega arith), at-laid ws (drop w l) (drop-bytes w l bs) (rw length-drop (omega arith)), take-add w (total ws) l)

at-fits : (ws l : List ℕ) → Bytes l → total ws ≤ length l → Fit (fields_at ws l)
unfolding total
at-fits [] l bs h = none_left
at-fits (w ∷ ws) l bs h = one-fits (front_fits w l bs (omega arith)) (at-fits ws (drop w l) (drop-bytes w l bs) (rw length-drop (omega arith)))

-- ---- every command is read from its bytes
-- the fields of a kind are its command's, and two bytes say the kind and the length
of-kind : (c : Command)
    → (widths (kind_of c) ≡ some (widths_in (fields_in c)))
    × (command_of (kind_of c) (λ i. get_or (numbers_in (fields_in c)) i 0) ≡ c)
    × (kind_of c < 256 ^ 2)
    × (2 + total (widths_in (fields_in c)) < 256 ^ 2)
unfolding widths command_of total
of-kind (Opening z clock) = (refl, refl, omega arith, omega arith)
of-kind (Asking begin) = (refl, refl, omega arith, omega arith)
of-kind (Asking (capture t k)) = (refl, refl, omega arith, omega arith)
of-kind (Asking (collect t)) = (refl, refl, omega arith, omega arith)
of-kind (Asking (rows t room)) = (refl, refl, omega arith, omega arith)
of-kind (Asking (write t r (some c))) = (refl, refl, omega arith, omega arith)
of-kind (Asking (write t r none)) = (refl, refl, omega arith, omega arith)
of-kind (Asking (prepare t)) = (refl, refl, omega arith, omega arith)
of-kind (Asking (install t)) = (refl, refl, omega arith, omega arith)
of-kind (Asking (end t)) = (refl, refl, omega arith, omega arith)
of-kind (Asking (publish t)) = (refl, refl, omega arith, omega arith)
of-kind (Asking (validate t)) = (refl, refl, omega arith, omega arith)
of-kind (Asking (abort t)) = (refl, refl, omega arith, omega arith)

-- a record with what comes after it: its length, its kind, and its fields
module _ (kind : ℕ) (fs : List Field) (rest : List ℕ) (k : kind < 256 ^ 2) (n : 2 + total (widths_in fs) < 256 ^ 2) where
  in_parts : framed kind fs ++ rest ≡ in_bytes 2 (2 + length (laid_out fs)) ++ (in_bytes 2 kind ++ (laid_out fs ++ rest))
  unfolding framed
  in_parts = simp append_assoc

  framed-length : length_in (framed kind fs ++ rest) ≡ 2 + length (laid_out fs)
  framed-length =
      let long = laid-long fs in
      let m = 2 + length (laid_out fs) in
      rw (in_parts, take_at (in_bytes 2 m) (in_bytes 2 kind ++ (laid_out fs ++ rest)) 2 (in-long 2 m), number_in 2 m (omega arith))

  framed-drop : drop 2 (framed kind fs ++ rest) ≡ in_bytes 2 kind ++ (laid_out fs ++ rest)
  framed-drop = let m = 2 + length (laid_out fs) in rw (in_parts, drop_at (in_bytes 2 m) (in_bytes 2 kind ++ (laid_out fs ++ rest)) 2 (in-long 2 m))

  framed-kind : kind_in (framed kind fs ++ rest) ≡ kind
  framed-kind = rw (framed-drop, take_at (in_bytes 2 kind) (laid_out fs ++ rest) 2 (in-long 2 kind), number_in 2 kind k)

  framed-fields : drop 4 (framed kind fs ++ rest) ≡ laid_out fs ++ rest
  framed-fields = rw (← drop-drop 2 2 (framed kind fs ++ rest), framed-drop, drop_at (in_bytes 2 kind) (laid_out fs ++ rest) 2 (in-long 2 kind))

  framed-rest : drop (2 + (2 + length (laid_out fs))) (framed kind fs ++ rest) ≡ rest
  framed-rest =
      let n : 2 + (2 + length (laid_out fs)) ≡ 4 + length (laid_out fs) = omega arith in
      rw (n, ← drop-drop (length (laid_out fs)) 4 (framed kind fs ++ rest), framed-fields, drop_at (laid_out fs) rest (length (laid_out fs)) refl)

  framed-long : length (framed kind fs ++ rest) ≡ 4 + length (laid_out fs) + length rest
  framed-long =
      rw (in_parts, length-append, length-append, length-append, in-long 2 (2 + length (laid_out fs)), in-long 2 kind) (omega arith)

  framed-whole : widths kind ≡ some (widths_in fs) → whole (framed kind fs ++ rest) ≡ true
  unfolding whole
  framed-whole e =
      let long = framed-long in
      rw (
        le-leb 4 (length (framed kind fs ++ rest)) (omega arith),
        framed-length,
        le-leb (2 + (2 + length (laid_out fs))) (length (framed kind fs ++ rest)) (omega arith),
        framed-kind,
        e,
        eq-eqb (2 + length (laid_out fs)) (2 + total (widths_in fs)) (ap (λ x. 2 + x) (laid-long fs)),
      )

  framed-read : widths kind ≡ some (widths_in fs) → Fit fs
      → read_record (framed kind fs ++ rest) ≡ some (command_of kind (λ i. get_or (numbers_in fs) i 0), rest)
  unfolding field_in
  framed-read e fit =
      let ns : fields_of (widths kind) (laid_out fs ++ rest) ≡ numbers_in fs = rw e (fields_laid fs rest fit) in
      let f : field_in kind (laid_out fs ++ rest) ≡ (λ i. get_or (numbers_in fs) i 0) = ap (λ (l : List ℕ). λ (i : ℕ). get_or l i 0) ns in
      read_whole (framed kind fs ++ rest) (framed-whole e) ∙ rw (framed-length, framed-kind, framed-fields, f, framed-rest)

-- every command whose numbers fit their fields is read from its bytes, whatever comes after them
pub command-read : (c : Command) (rest : List ℕ) → Fit (fields_in c) → read_record (bytes_of c ++ rest) ≡ some (c, rest)
unfolding bytes_of
command-read c rest fit = let f = of-kind c in framed-read (kind_of c) (fields_in c) rest f.2 f.3 f.0 fit ∙ rw f.1

-- ---- what is read are the bytes of its command
-- the fields that a known kind takes from bytes are its command's
abbrev at_with : Option (List ℕ) → List ℕ → List Field
at_with none l = []
at_with (some ws) l = fields_at ws l

Taken : List ℕ → ℕ → Type 0
Taken l kind = (kind_of (command_of kind (field_in kind l)) ≡ kind) × (fields_in (command_of kind (field_in kind l)) ≡ at_with (widths kind) l)

each-taken : (l : List ℕ) → Each (Taken l) 1 13
unfolding Taken command_of field_in widths fields
each-taken l = (
  (refl, refl),
  (
    (refl, refl),
    (
      (refl, refl),
      (
        (refl, refl),
        (
          (refl, refl),
          (
            (refl, refl),
            (
              (refl, refl),
              ((refl, refl), ((refl, refl), ((refl, refl), ((refl, refl), ((refl, refl), ((refl, refl), tt)))))),
            ),
          ),
        ),
      ),
    ),
  ),
)

module _ (l : List ℕ) (bs : Bytes l) (w : whole l ≡ true) where
  known : (ws : List ℕ) → widths (kind_in l) ≡ some ws → length_in l ≡ 2 + total ws → (1 ≤ kind_in l) × (kind_in l ≤ 13)
  unfolding length_of
  known ws e n = let f = whole-facts l w in let two = front_fits 2 l bs (omega arith) in known_of (kind_in l) (rw e (omega arith))

  front_bytes : (ws : List ℕ) → length_in l ≡ 2 + total ws → framed (kind_in l) (fields_at ws (drop 4 l)) ≡ take (2 + length_in l) l
  unfolding framed
  front_bytes ws n =
      let f = whole-facts l w in
      let long : total ws ≤ length (drop 4 l) = rw length-drop (omega arith) in
      let two : 2 ≤ length (drop 2 l) = rw length-drop (omega arith) in
      let four : 2 + (2 + total ws) ≡ 4 + total ws = omega arith in
      rw (
        at-laid ws (drop 4 l) (drop-bytes 4 l bs) long,
        length-take-le (total ws) (drop 4 l) long,
        ← n,
        front 2 l bs (omega arith),
        front 2 (drop 2 l) (drop-bytes 2 l bs) two,
        n,
        four,
        take-add 4 (total ws) l,
        take-add 2 2 l,
      )

  read_by : (o : Option (List ℕ)) → widths (kind_in l) ≡ o → fits o (length_in l) ≡ true
      → (bytes_of (command_of (kind_in l) (field_in (kind_in l) (drop 4 l))) ≡ take (2 + length_in l) l)
      × Fit (fields_in (command_of (kind_in l) (field_in (kind_in l) (drop 4 l))))
  unfolding bytes_of Taken
  read_by none e fit = let z : ◌≡◌ {A = ℕ} 0 1 = cc in absurd (omega arith)
  read_by (some ws) e fit =
      let n = eqb-true (length_in l) (2 + total ws) fit in
      let f = whole-facts l w in
      let long : total ws ≤ length (drop 4 l) = rw length-drop (omega arith) in
      let k = known ws e n in
      let taken = one_of (Taken (drop 4 l)) 13 1 (kind_in l) (each-taken (drop 4 l)) k.0 (omega arith) in
      let fs : fields_in (command_of (kind_in l) (field_in (kind_in l) (drop 4 l))) ≡ fields_at ws (drop 4 l) = rw e at taken.1 in
      (rw (taken.0, fs) (front_bytes ws n), rw fs (at-fits ws (drop 4 l) (drop-bytes 4 l bs) long))

exact-by : (l : List ℕ) (b : Bool) → whole l ≡ b → Bytes l → (c : Command) (rest : List ℕ) → read_record l ≡ some (c, rest)
    → (l ≡ bytes_of c ++ rest) × Fit (fields_in c)
exact-by l true w bs c rest e =
    let r = read_whole l w in
    let b = read_by l bs w (widths (kind_in l)) refl (whole-facts l w).2 in
    let p : ◌≡◌ {A = Command × List ℕ} (command_of (kind_in l) (field_in (kind_in l) (drop 4 l)), drop (2 + length_in l) l) (c, rest) = cc in
    let ec : command_of (kind_in l) (field_in (kind_in l) (drop 4 l)) ≡ c = ap (λ x. x.0) p in
    let er : drop (2 + length_in l) l ≡ rest = ap (λ x. x.1) p in
    (rw (← ec, ← er, b.0) (sym (take-append-drop (2 + length_in l) l)), rw ec at b.1)
exact-by l false w bs c rest e = let r = read_none l w in let z : ◌≡◌ {A = ℕ} 0 1 = cc in absurd (omega arith)

-- a log of bytes from which a command is read begins with that command's bytes, and its numbers fit their fields
pub read-exact : (l : List ℕ) → Bytes l → (c : Command) (rest : List ℕ) → read_record l ≡ some (c, rest) → (l ≡ bytes_of c ++ rest) × Fit (fields_in c)
read-exact l bs c rest e = exact-by l (whole l) refl bs c rest e
