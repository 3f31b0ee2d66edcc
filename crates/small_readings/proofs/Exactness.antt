-- Over a sound netlist nothing is lost of small readings.
use Rattle.std.proofs.Common.{length, arith}
use Rattle.network.specs.Flows.{only}
use Rattle.small_readings.specs.Exact.{SmallIsExact}
use Rattle.small_readings.proofs.Sums.{law_value, law_alike, first_law_alike, flow_value, flow_alike, first_node_alike}
use Rattle.small_readings.proofs.Closing.{fails_to_integers, fails_to_wholes, close_to_integers, close_to_wholes, refuted_alike}
use Rattle.small_readings.proofs.Solving.{solved_to_integers, solved_to_wholes}

pub small_is_exact : SmallIsExact
small_is_exact b sound r small_values small_rates =
    let all = length b.rows in
    record {
      law_sums = law_value b sound r small_values small_rates;
      laws = law_alike b sound r small_values small_rates;
      first_law = first_law_alike b sound r small_values small_rates;
      flows = flow_value b sound r small_values small_rates;
      nodes = λ n. flow_alike b sound r small_values small_rates (only n);
      first_node = first_node_alike b sound r small_values small_rates;
      walks_close = λ k l. (close_to_integers b sound r.values small_values k l, close_to_wholes b sound r.values small_values k);
      walk_fails = λ k l. (fails_to_integers b sound r.values small_values k, fails_to_wholes b sound r.values small_values k l);
      refuted = refuted_alike b sound r.values small_values;
      solved = λ k l p. (solved_to_integers b sound r.values small_values k l p, solved_to_wholes b sound r.values small_values k l p);
      readings_agree = (
        λ holds. record {
          laws = λ k l. (law_alike b sound r small_values small_rates k).0 (holds.laws k l);
          sets = λ inside. (flow_alike b sound r small_values small_rates inside).0 (holds.sets inside);
          walks = close_to_integers b sound r.values small_values all (omega arith) holds.walks;
        },
        λ holds. record {
          laws = λ k l. (law_alike b sound r small_values small_rates k).1 (holds.laws k l);
          sets = λ inside. (flow_alike b sound r small_values small_rates inside).1 (holds.sets inside);
          walks = close_to_wholes b sound r.values small_values all holds.walks;
        },
      );
    }
