mod Walked
