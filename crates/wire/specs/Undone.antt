-- For every kind of field, reading and writing undo each other. Assumes nothing.
use Rattle.std.specs.Prelude.{ℕ, ◌<◌, nat_lt}
use Rattle.wire.specs.Bytes.{byte_bytes, word_bytes, long_bytes, signed_bytes}
use Rattle.wire.specs.Laws.{Lawful}
use Rattle.wire.specs.Reading.{byte_at, word_at, quantity_at, is_quantity, rate_at, price_at, is_price, cost_at, down_time_at, count_at, is_count, map_at, is_map}

pub record FieldsUndone : Type 0 where
  pub byte : Lawful byte_at byte_bytes (λ v. nat_lt v 256) 1
  pub word : Lawful word_at word_bytes (λ v. nat_lt v 65536) 2
  pub quantity : Lawful quantity_at long_bytes is_quantity 4
  pub rate : Lawful rate_at long_bytes is_quantity 4
  pub price : Lawful price_at signed_bytes is_price 4
  pub cost : Lawful cost_at long_bytes (λ v. nat_lt v 4294967296) 4
  pub down_time : Lawful down_time_at word_bytes (λ v. nat_lt v 65536) 2
  pub count : (most : ℕ) → Lawful (count_at most) byte_bytes (is_count most) 1
  pub map : (last : ℕ) → last < 16 → Lawful (map_at last) word_bytes (is_map last) 2
