use Rattle.wire.specs.Lawful.{number_lawful, quantity_lawful, price_lawful, count_lawful, map_lawful}
use Rattle.wire.proofs.laws.fields_undone.Goals as goal

pub returns : goal.returns
returns c = record {
  byte = number_lawful 1;
  word = number_lawful 2;
  quantity = quantity_lawful;
  rate = quantity_lawful;
  price = price_lawful;
  cost = number_lawful 4;
  down_time = number_lawful 2;
  count = count_lawful;
  map = map_lawful;
}
