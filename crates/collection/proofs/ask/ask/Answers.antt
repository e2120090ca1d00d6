use Rattle.collection.proofs.WordsAsk.{ask_limit, asks_closed, asks_idle, asks_linked, asks_unlinking, linked_asks_good, none_asked_good, unlinking_asks_good}
use Rattle.collection.proofs.WordsSlots.{read_linked_room, read_unlinking_room}
use Rattle.collection.proofs.ask.ask.Goals as goal

pub ask_for-requires : goal.ask_for-requires
ask_for-requires c = (search read_linked_room, search ask_limit)

pub ask_for-requires-in-Unlinking : goal.ask_for-requires-in-Unlinking
ask_for-requires-in-Unlinking c = (search read_unlinking_room, search ask_limit)

pub returns-in-Closed-clause-result_value : goal.returns-in-Closed-clause-result_value
returns-in-Closed-clause-result_value c = search asks_closed

pub returns-in-Closed-clause-ask_words_good : goal.returns-in-Closed-clause-ask_words_good
returns-in-Closed-clause-ask_words_good c = search none_asked_good

pub returns-in-Idle-clause-result_value : goal.returns-in-Idle-clause-result_value
returns-in-Idle-clause-result_value c = search asks_idle

pub returns-in-Idle-clause-ask_words_good : goal.returns-in-Idle-clause-ask_words_good
returns-in-Idle-clause-ask_words_good c = search none_asked_good

pub returns-in-Linked-clause-result_value : goal.returns-in-Linked-clause-result_value
returns-in-Linked-clause-result_value c = search asks_linked

pub returns-in-Linked-clause-ask_words_good : goal.returns-in-Linked-clause-ask_words_good
returns-in-Linked-clause-ask_words_good c = search linked_asks_good

pub returns-in-Unlinking-clause-result_value : goal.returns-in-Unlinking-clause-result_value
returns-in-Unlinking-clause-result_value c = search asks_unlinking

pub returns-in-Unlinking-clause-ask_words_good : goal.returns-in-Unlinking-clause-ask_words_good
returns-in-Unlinking-clause-ask_words_good c = search unlinking_asks_good
