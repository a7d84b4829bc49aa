-- Reading and encoding undo each other. Assumes nothing.
use mathlib.Core.Path.{◌≡◌, refl, sym, ap, ◌∙◌}
use mathlib.Core.Logic.{◌↔◌}
use Prim.Native.Nat.{ℕ}
use mathlib.Core.List.{List}
use Rattle.sheet.specs.Reading.{ok}
use Rattle.sheet.specs.Expression.{Expr, tree}
use Rattle.sheet.specs.Module.{Module, read_sheet, read_whole, read}
use Rattle.sheet.proofs.Reading.{ok-injective, bind_ok}
use Rattle.encoding.specs.Encoding.{Bytes, encode}
use Rattle.encoding.specs.WellFormed.{WellFormed}
use Rattle.encoding.specs.Whole.{encode_whole, WholeFormed}
use Rattle.encoding.proofs.Whole.{whole-encode, encode-whole}
use Rattle.encoding.proofs.Plain.{sheet-ok, sheet-at}
use Rattle.encoding.proofs.Bytes.{all-bytes, whole-bytes, sheet-bytes}

-- ---- THE THEOREM (its proof is `reads-exactly`, below): reading the bytes s gives the module m exactly when m is well
-- formed and its encoding is s. So the reader skips no byte, doubles none and takes none for another.

abbrev pub ReadsExactly : Type 0
ReadsExactly = (s : List ℕ) → Bytes s → (m : Module Expr) → (read s ≡ ok m) ↔ (WellFormed m × (encode m ≡ s))

-- ---- what is read is well formed, and its encoding is what was read

pub read-encode : (s : List ℕ) → Bytes s → {m : Module Expr} → read s ≡ ok m → WellFormed m × (encode m ≡ s)
unfolding read
read-encode s bs h =
    let r = bind_ok (read_sheet (tree s) s) _ h in
    rw (← ok-injective r.2) (sheet-ok s bs r.1)

-- ---- what is well formed is read from its encoding

pub encode-read : {m : Module Expr} → WellFormed m → read (encode m) ≡ ok m
unfolding read
encode-read {m} f = rw (sheet-at m f).2 refl

-- ---- both

pub reads-exactly : ReadsExactly
reads-exactly s bs m = (λ h. read-encode s bs h, λ h. ap read (sym h.1) ∙ encode-read h.0)

-- ---- what follows at once

-- Two accepted sheets with the same module are the same bytes.
pub read-injective : (s t : List ℕ) → Bytes s → Bytes t → {m : Module Expr} → read s ≡ ok m → read t ≡ ok m → s ≡ t
read-injective s t bs bt h g = sym (read-encode s bs h).1 ∙ (read-encode t bt g).1

-- Two well-formed modules with the same encoding are the same module.
pub encode_injective : {m n : Module Expr} → WellFormed m → WellFormed n → encode m ≡ encode n → m ≡ n
encode_injective f g e = ok-injective (sym (encode-read f) ∙ ap read e ∙ encode-read g)

-- The encoding of a well-formed module consists of bytes.
pub encode-bytes : {m : Module Expr} → WellFormed m → Bytes (encode m)
encode-bytes {m} f = all-bytes (sheet-bytes m f)

-- A module is well formed exactly when some sheet holds it.
pub well-formed-exactly : (m : Module Expr) → WellFormed m ↔ ((s : List ℕ) × Bytes s × (read s ≡ ok m))
well-formed-exactly m = (λ f. (encode m, encode-bytes f, encode-read f), λ r. (read-encode r.0 r.1 r.2).0)

-- The same of sheets with functions.
pub whole-encode-bytes : {m : Module Expr} → WholeFormed m → Bytes (encode_whole m)
whole-encode-bytes {m} f = all-bytes (whole-bytes m f)

pub whole-formed-exactly : (m : Module Expr) → WholeFormed m ↔ ((s : List ℕ) × Bytes s × (read_whole s ≡ ok m))
whole-formed-exactly m = (λ f. (encode_whole m, whole-encode-bytes f, encode-whole f), λ r. (whole-encode r.0 r.1 r.2).0)
