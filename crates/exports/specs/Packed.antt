-- The one number that every exported function answers.
use Rattle.std.specs.Prelude.{ℕ, ◌+◌, ◌*◌, ◌/◌, ◌%◌, ◌^◌, ◌<◌, ◌≡◌}

-- What it tells: a refusal's number, 0 for a result; the kind of frame, 0 for standard, 1 for extended and 2
-- where a line reader told nothing; the addresses; the length. Of packets, which have a library of their own, the bytes
-- of the header stand in place of kind and addresses.
pub record Fields : Type 0 where
  pub number : ℕ
  pub kind : ℕ
  pub to : ℕ
  pub from : ℕ
  pub len : ℕ

-- Bits 0 to 7 the number, 8 to 15 the kind, 16 to 23 to, 24 to 31 from, 32 to 63 the length.
unfoldable pub packed : Fields → ℕ
packed f = f.number + 2 ^ 8 * f.kind + 2 ^ 16 * f.to + 2 ^ 24 * f.from + 2 ^ 32 * f.len

-- The fields of a number, which is what the portal takes apart.
unfoldable pub unpacked : ℕ → Fields
unpacked n =
    record {
      number = n % 2 ^ 8;
      kind = n / 2 ^ 8 % 2 ^ 8;
      to = n / 2 ^ 16 % 2 ^ 8;
      from = n / 2 ^ 24 % 2 ^ 8;
      len = n / 2 ^ 32;
    }

-- Every field has room in its bits.
pub record FieldsFit (f : Fields) : Type 0 where
  pub number : f.number < 2 ^ 8
  pub kind : f.kind < 2 ^ 8
  pub to : f.to < 2 ^ 8
  pub from : f.from < 2 ^ 8
  pub len : f.len < 2 ^ 32

-- A number is the packed fields, and they are what it is taken apart to.
pub record Tells (n : ℕ) (f : Fields) : Type 0 where
  pub packs : n ≡ packed f
  pub unpacks : unpacked n ≡ f
