use Rattle.signing_stated.proofs.Cases.{register_least, register_most, register_marker, register_body_fits, authenticate_body_fits, register_length_said, register_put, authenticate_length_said, authenticate_put}
use borrow.Author.Rules.{rules}
use Rattle.signing.proofs.put_body.Goals as goal

pub put_register_body-requires-clause-le_to_sign : goal.put_register_body-requires-clause-le_to_sign
put_register_body-requires-clause-le_to_sign c = (search (rules, register_least), search (rules, register_most), search (rules, register_marker))

pub put_register_body-requires-clause-signature_in_bounds : goal.put_register_body-requires-clause-signature_in_bounds
put_register_body-requires-clause-signature_in_bounds c = search (rules, register_body_fits)

pub put_authenticate_body-requires : goal.put_authenticate_body-requires
put_authenticate_body-requires c = search (rules, authenticate_body_fits)

pub returns-in-Register-clause-value : goal.returns-in-Register-clause-value
returns-in-Register-clause-value c = search (rules, register_length_said)

pub returns-in-Register-clause-reply_after : goal.returns-in-Register-clause-reply_after
returns-in-Register-clause-reply_after c = search (rules, register_put)

pub returns-in-Authenticate-clause-value : goal.returns-in-Authenticate-clause-value
returns-in-Authenticate-clause-value c = search (rules, authenticate_length_said)

pub returns-in-Authenticate-clause-reply_after : goal.returns-in-Authenticate-clause-reply_after
returns-in-Authenticate-clause-reply_after c = search (rules, authenticate_put)
